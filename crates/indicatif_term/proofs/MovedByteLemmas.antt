-- The bytes of lines written one behind another, and the first visible character of a text.
use Rattle.std.proofs.Common.{◌≡◌, ℕ, ◌+◌, ◌-◌, ◌<◌, List, [], ◌∷◌, ◌++◌, length, take, drop, get_or, sym, ◌∙◌, ap, subst, append_assoc, append-nil}
use Rattle.std.specs.Prelude.{◌==◌}
use Rattle.std.specs.declared.io.ErrorKind.{ErrorKind}
use Rattle.std.proofs.lemmas.List.{take_more, map-append, take-append-drop}
use Rattle.std.proofs.lemmas.Grind.{flat_map-append}
use Rattle.indicatif_text.specs.Columns.{width_of, visible}
use Rattle.indicatif_term.specs.Calls.{UP, move_bytes, TermView, LeadsOn, BreaksOff}
use Rattle.indicatif_term.specs.Inside.Inks.{Ink, Inked, NONE, in_ink, characters, padded, read}
use Rattle.indicatif_term.specs.Inside.Changing.{filled_bytes, run_bytes, moved_bytes, joins, IsEven, AreEven}
use Rattle.indicatif_term.specs.Standing.{placed_of, placed}
use Rattle.indicatif_term.specs.declared.engine.remembered.StandingLine.{StandingLine}
use Rattle.indicatif_term.proofs.CallTurnLemmas.{breaks_then, breaks_early}
use Rattle.indicatif_term.proofs.BesideLemmas.{all_append}
use Rattle.indicatif_term.proofs.InkLemmas.{read_characters}
use Rattle.indicatif_term.proofs.PartingLemmas.{space_one}

-- ---- some lines of a list, and one more

module _ (w : ℕ) (lines : List StandingLine) (i : ℕ) (x : StandingLine) (h : i < length lines) (e : get_or lines i x ≡ x) where
  one_more : take (i + 1) lines ≡ take i lines ++ x ∷ []
  one_more = take_more lines i x h ∙ ap (λ y. take i lines ++ y ∷ []) e

  run_next : run_bytes w (placed (take (i + 1) lines)) ≡ run_bytes w (placed (take i lines)) ++ filled_bytes w (placed_of x)
  run_next =
      ap (λ ls. run_bytes w (placed ls)) one_more ∙ ap (run_bytes w) (map-append placed_of (take i lines) (x ∷ []))
      ∙ flat_map-append (filled_bytes w) (placed (take i lines)) (placed_of x ∷ []) ∙ ap (λ b. run_bytes w (placed (take i lines)) ++ b) (append-nil (filled_bytes w (placed_of x)))

  pub moved_next : (taken : ℕ) → moved_bytes w taken (placed (take (i + 1) lines)) ≡ moved_bytes w taken (placed (take i lines)) ++ filled_bytes w (placed_of x)
  moved_next taken =
      ap (λ b. move_bytes UP (taken - 1) ++ (0x0D ∷ b)) run_next ∙ sym (append_assoc (move_bytes UP (taken - 1)) (0x0D ∷ run_bytes w (placed (take i lines))) (filled_bytes w (placed_of x)))

  -- a failure within a line is one of the whole
  pub moved_breaks : (taken : ℕ) {kind : ErrorKind} (s t u : TermView) → LeadsOn (moved_bytes w taken (placed (take i lines))) s t → BreaksOff (filled_bytes w (placed_of x)) kind t u →
      BreaksOff (moved_bytes w taken (placed lines)) kind s u
  moved_breaks taken {kind} s t u p q =
      let front = placed (take (i + 1) lines) in
      let back = placed (drop (i + 1) lines) in
      let whole : front ++ back ≡ placed lines = sym (map-append placed_of (take (i + 1) lines) (drop (i + 1) lines)) ∙ ap placed (take-append-drop (i + 1) lines) in
      let run : run_bytes w front ++ run_bytes w back ≡ run_bytes w (placed lines) = sym (flat_map-append (filled_bytes w) front back) ∙ ap (run_bytes w) whole in
      let b : BreaksOff (moved_bytes w taken front ++ run_bytes w back) kind s u =
      breaks_early (run_bytes w back) (subst (λ y. BreaksOff y kind s u) (sym (moved_next taken)) (breaks_then p q)) in
      subst (λ y. BreaksOff y kind s u) (append_assoc (move_bytes UP (taken - 1)) (0x0D ∷ run_bytes w front) (run_bytes w back) ∙ ap (λ r. move_bytes UP (taken - 1) ++ (0x0D ∷ r)) run) b

  pub even_next : AreEven w (take i lines) → IsEven w x → AreEven w (take (i + 1) lines)
  even_next all is = subst (AreEven w) (sym one_more) (all_append (IsEven w) (take i lines) (x ∷ []) all (is, tt))

-- ---- the first visible character of a text

abbrev first_char : List Inked → ℕ
first_char [] = 0
first_char (x ∷ cells) = x.char

first_of : (cells : List Inked) (i : Ink) (c : ℕ) (rest : List Inked) → padded 1 cells ≡ in_ink i c ∷ rest → (width_of c == 0) ≡ joins (characters cells)
first_of [] i c rest e =
    let same : 0x20 ≡ c = ap first_char e in
    let one : width_of c ≡ 1 = ap width_of (sym same) ∙ space_one in
    ap (λ n. n == 0) one
first_of (x ∷ cells) i c rest e = let same : x.char ≡ c = ap first_char e in ap (λ d. width_of d == 0) (sym same)

pub first_joins : (text : List ℕ) (i : Ink) (c : ℕ) (rest : List Inked) → padded 1 (read NONE text) ≡ in_ink i c ∷ rest → (width_of c == 0) ≡ joins (visible text)
first_joins text i c rest e = first_of (read NONE text) i c rest e ∙ ap joins (read_characters NONE text)
