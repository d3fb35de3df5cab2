-- Where the last of some lines ends, and the spaces behind it.
use Rattle.std.proofs.Common.{◌≡◌, ℕ, ◌<◌, true, false, List, [], ◌∷◌, ◌++◌, length, map, replicate, refl, sym, ◌∙◌, ap, arith, append-nil, Option, Some, None, Bool, Bor, chars}
use Rattle.std.proofs.lemmas.Str.{chars-nil}
use Rattle.indicatif_text.specs.Columns.{last_columns, visible, rows_of}
use Rattle.std.specs.Prelude.{option_map, unwrap_or}
use Rattle.std.proofs.lemmas.List.{map-append}
use Rattle.indicatif_term.specs.Inside.Fills.{last_of, line_end, fill_columns, line_or_none, last_or_none}
use Rattle.indicatif_term.specs.Inside.Changing.{PlacedLine}
use Rattle.indicatif_term.specs.Standing.{placed, texts, AreLines}
use Rattle.indicatif_term.specs.declared.engine.remembered.StandingLine.{StandingLine}
use Rattle.indicatif_term.proofs.LastLineLemmas.{last_push, last_append, some_last, fill_bytes, spaces_behind}

-- ---- what fills the last row

fill_by_last : (w : ℕ) (last : Option (List ℕ)) → replicate (fill_columns false w (option_map (line_end w) last)) 0x20 ≡ spaces_behind w last
fill_by_last w None = refl
fill_by_last w (Some line) = refl

-- the spaces behind lines by where the last of them ends
pub fill_by : (below : Bool) (w : ℕ) (lines : List (List ℕ)) → replicate (fill_columns below w (option_map (line_end w) (last_of lines))) 0x20 ≡ fill_bytes below w lines
fill_by true w lines = refl
fill_by false w lines = fill_by_last w (last_of lines)

-- ---- the lines of a text, as they come

pub nothing_ends_at : (w : ℕ) → line_end w (last_or_none []) ≡ 0
unfolding last_columns visible
nothing_ends_at w = rw chars-nil refl

pub came_end : (w : ℕ) (came : List (Bor (List ℕ))) (x : Bor (List ℕ)) → line_end w x.now ≡ line_end w (last_or_none (map (λ line. line.now) (came ++ x ∷ [])))
came_end w came x = ap (λ o. line_end w (line_or_none o)) (sym (ap last_of (map-append (λ (line : Bor (List ℕ)). line.now) came (x ∷ [])) ∙ last_push (map (λ line. line.now) came) x.now))

pub one_row : (w : ℕ) → length (rows_of w (chars [])) ≡ 1
unfolding rows_of visible
one_row w = rw chars-nil refl

-- ---- the last line of a drawing

-- the first of two, if there is one
abbrev pub either : Option ℕ → Option ℕ → Option ℕ
either None other = other
either (Some n) other = Some n

either_line : (w : ℕ) (o : Option ℕ) (last : Option (List ℕ)) → (last ≡ None → ⊥) → Some (unwrap_or o (line_end w (line_or_none last))) ≡ either o (option_map (line_end w) last)
either_line w None None h = absurd (h refl)
either_line w None (Some line) h = refl
either_line w (Some n) last h = refl

either_last : (w : ℕ) (text : List (List ℕ)) (o : Option ℕ) → 0 < length text → Some (unwrap_or o (line_end w (last_or_none text))) ≡ either o (option_map (line_end w) (last_of text))
either_last w [] o h = absurd (omega arith)
either_last w (line ∷ lines) o h = either_line w o (last_of (line ∷ lines)) (some_last line lines)

some_either : (w : ℕ) (last : Option (List ℕ)) (other : Option ℕ) → (last ≡ None → ⊥) → option_map (line_end w) last ≡ either (option_map (line_end w) last) other
some_either w None other h = absurd (h refl)
some_either w (Some line) other h = refl

some_end : (w : ℕ) (line : List ℕ) (lines : List (List ℕ)) (other : Option ℕ) → option_map (line_end w) (last_of (line ∷ lines)) ≡ either (option_map (line_end w) (last_of (line ∷ lines))) other
some_end w line lines other = some_either w (last_of (line ∷ lines)) other (some_last line lines)

-- the last of lines ends where it is measured
pub last_measured : (w : ℕ) (ls : List StandingLine) → AreLines w ls → option_map (λ (p : PlacedLine). p.last) (last_of (placed ls)) ≡ option_map (line_end w) (last_of (texts ls))
last_measured w [] all = refl
last_measured w (l ∷ []) all = ap Some all.0.last_is
last_measured w (l ∷ k ∷ ls) all = last_measured w (k ∷ ls) all.1

-- the spaces behind a draw of some lines
pub draw_fill : (w : ℕ) (ls : List StandingLine) (below : Bool) (last : Option ℕ) (n : ℕ) → AreLines w ls → last ≡ option_map (λ (p : PlacedLine). p.last) (last_of (placed ls)) →
    n ≡ fill_columns below w last → replicate n 0x20 ≡ fill_bytes below w (texts ls)
draw_fill w ls below last n all e f = ap (λ n. replicate n 0x20) (f ∙ ap (fill_columns below w) (e ∙ last_measured w ls all)) ∙ fill_by below w (texts ls)

either_both : (w : ℕ) (text lines : List (List ℕ)) → option_map (line_end w) (last_of (text ++ lines)) ≡ either (option_map (line_end w) (last_of lines)) (option_map (line_end w) (last_of text))
either_both w text [] = ap (λ ls. option_map (line_end w) (last_of ls)) (append-nil text)
either_both w text (line ∷ lines) = ap (option_map (line_end w)) (last_append text (line ∷ lines) (omega arith)) ∙ some_end w line lines (option_map (line_end w) (last_of text))

-- those behind a log of a text above some lines
pub log_fill : (w : ℕ) (text : List (List ℕ)) (ls : List StandingLine) (below : Bool) (found : Option ℕ) (last n : ℕ) → 0 < length text → AreLines w ls →
    found ≡ option_map (λ (p : PlacedLine). p.last) (last_of (placed ls)) → last ≡ unwrap_or found (line_end w (last_or_none text)) → n ≡ fill_columns below w (Some last) →
    replicate n 0x20 ≡ fill_bytes below w (text ++ texts ls)
log_fill w text ls below found last n some all e u f =
    ap (λ n. replicate n 0x20) (f ∙ ap (fill_columns below w) (ap Some (u ∙ ap (λ o. unwrap_or o (line_end w (last_or_none text))) (e ∙ last_measured w ls all)) ∙ either_last w text _ some
    ∙ sym (either_both w text (texts ls))))
    ∙ fill_by below w (text ++ texts ls)
