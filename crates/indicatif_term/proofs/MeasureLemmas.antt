-- Of lines measured one after another the rows add up, and one that is too wide is one of them all.
use Rattle.std.proofs.Common.{◌≡◌, ℕ, zero, suc, ◌+◌, ◌<◌, true, false, List, [], ◌∷◌, ◌++◌, ◌||◌, length, map, take, get_or, refl, sym, ◌∙◌, ap, arith, chars, Result, Err, Bor}
use Rattle.std.proofs.lemmas.Str.{chars-nil}
use Rattle.std.proofs.lemmas.List.{take_more, map-append}
use Rattle.std.proofs.Math.Bool.{or-true, or-false}
use Rattle.std.proofs.lemmas.List.Folds.{list_any-append}
use Rattle.std.proofs.lemmas.List.Sums.{sum_by_push}
use Rattle.indicatif_text.specs.Columns.{has_wide, rows_of, visible}
use Rattle.indicatif_text.specs.declared.columns.Metrics.{Metrics}
use Rattle.indicatif_text.specs.declared.refusal.Refusal.{Refusal}
use Rattle.indicatif_text.specs.declared.refusal.Refusal.TheVariants.{NoColumns, TooWide, Terminal, Memory}
use Rattle.indicatif_term.specs.Lines.{some_wide, text_lines}
use Rattle.indicatif_term.specs.Inside.Plans.{text_height, MeasuredText, IsWithheld}

module _ (w : ℕ) (lines : List (List ℕ)) (i : ℕ) (line : List ℕ) (h : i < length lines) (e : get_or lines i line ≡ line) where
  one_more : take (i + 1) lines ≡ take i lines ++ line ∷ []
  one_more = take_more lines i line h ∙ ap (λ x. take i lines ++ x ∷ []) e

  pub narrow_more : some_wide w (take i lines) ≡ false → has_wide w line ≡ false → some_wide w (take (i + 1) lines) ≡ false
  narrow_more a b = ap (some_wide w) one_more ∙ list_any-append (has_wide w) (take i lines) (line ∷ []) ∙ rw (a, b) refl

pub wide_at : (w : ℕ) (lines : List (List ℕ)) (i : ℕ) (line : List ℕ) → i < length lines → get_or lines i line ≡ line → has_wide w line ≡ true → some_wide w lines ≡ true
wide_at w [] i line h e t = absurd (omega arith)
wide_at w (x ∷ lines) zero line h e t = let t' : has_wide w x ≡ true = ap (has_wide w) e ∙ t in rw t' refl
wide_at w (x ∷ lines) (suc i) line h e t = rw (wide_at w lines i line (omega arith) e t) (or-true (has_wide w x))

-- why some lines are withheld is why more of them are
pub withheld_by : (w : ℕ) (a b : List (List ℕ)) (e : Refusal) → (some_wide w a ≡ true → some_wide w b ≡ true) → IsWithheld w a e → IsWithheld w b e
withheld_by w a b NoColumns f m = (refl, m.1)
withheld_by w a b TooWide f m = (refl, (m.1.0, f m.1.1))
withheld_by w a b (Terminal kind) f m = let no : true ≡ false = m.0 in cc
withheld_by w a b Memory f m = (refl, tt)
withheld_by w a b _ f m = absurd m.1

-- a wide line among others
pub one_of : (w : ℕ) (lines : List (List ℕ)) (i : ℕ) (line : List ℕ) → i < length lines → get_or lines i line ≡ line → some_wide w (line ∷ []) ≡ true → some_wide w lines ≡ true
one_of w lines i line h e t = wide_at w lines i line h e (sym (or-false (has_wide w line)) ∙ t)

-- ---- lines of a text, as they come

pub came_lines : (came : List (Bor (List ℕ))) (x : Bor (List ℕ)) → text_lines (map (λ line. line.now) (came ++ x ∷ [])) ≡ text_lines (map (λ line. line.now) came) ++ chars x.now ∷ []
came_lines came x = ap text_lines (map-append (λ (line : Bor (List ℕ)). line.now) came (x ∷ [])) ∙ map-append chars (map (λ line. line.now) came) (x.now ∷ [])

module _ (w : ℕ) (came : List (List ℕ)) (line : List ℕ) where
  pub narrow_after : some_wide w came ≡ false → has_wide w line ≡ false → some_wide w (came ++ line ∷ []) ≡ false
  narrow_after a b = list_any-append (has_wide w) came (line ∷ []) ∙ rw (a, b) refl

  pub height_after : text_height w (came ++ line ∷ []) ≡ text_height w came + length (rows_of w line)
  height_after = sum_by_push (λ line. length (rows_of w line)) came line

wide_among : (w : ℕ) (came : List (List ℕ)) (line : List ℕ) (rest : List (List ℕ)) → some_wide w (line ∷ []) ≡ true → some_wide w ((came ++ line ∷ []) ++ rest) ≡ true
wide_among w came line rest e = list_any-append (has_wide w) (came ++ line ∷ []) rest
    ∙ ap (λ b. b || some_wide w rest) (list_any-append (has_wide w) came (line ∷ []) ∙ ap (λ b. some_wide w came || b) e ∙ or-true (some_wide w came))

pub text_refused : (w : ℕ) (text : List (List ℕ)) (came : List (Bor (List ℕ))) (x : Bor (List ℕ)) (rest : List (List ℕ)) (e : Refusal) (r : Result Metrics Refusal) → r ≡ Err e →
    text ≡ map (λ line. line.now) (came ++ x ∷ []) ++ rest → IsWithheld w (chars x.now ∷ []) e → MeasuredText w text r
text_refused w text came x rest e r q whole m =
    let lines : text_lines text ≡ (text_lines (map (λ line. line.now) came) ++ chars x.now ∷ []) ++ text_lines rest =
    ap text_lines whole ∙ map-append chars (map (λ line. line.now) (came ++ x ∷ [])) rest ∙ ap (λ ls. ls ++ text_lines rest) (came_lines came x) in
    rw q (withheld_by w (chars x.now ∷ []) (text_lines text) e (λ t. ap (some_wide w) lines ∙ wide_among w (text_lines (map (λ line. line.now) came)) (chars x.now) (text_lines rest) t) m)

-- an empty text
pub empty_narrow : (w : ℕ) → some_wide w (text_lines ([] ∷ [])) ≡ false
unfolding has_wide visible
empty_narrow w = rw chars-nil refl
