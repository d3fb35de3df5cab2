use Rattle.std.proofs.Common.{◌≡◌, ◌∙◌, ◌-◌, ◌^◌, [], true, false, min, sym, ap, arith, subst, map, length, chars, append-nil, ℕ, List, Option, Some, None}
use Rattle.std.specs.Prelude.{◌==◌, All, IfSome, flat_map}
use Rattle.std.proofs.lemmas.Bool.Decides.{nat_tests}
use Rattle.std.specs.List.{AllByRecursion}
use Rattle.std.proofs.lemmas.Iterator.Consumers.{YieldsList-end, YieldsList-from_first}
use Rattle.indicatif_text.specs.Columns.{visible, width_of}
use Rattle.indicatif_text.specs.Pieces.{pieces_of_text, text_piece}
use Rattle.indicatif_text.specs.PieceLaws.{run_text}
use Rattle.indicatif_text.proofs.PieceLawLemmas.{runs_are_visible}
use Rattle.indicatif_term.specs.Inside.Inks.{IsRead, is_tidy}
use Rattle.std.specs.Int.{IsInRange}
use Rattle.indicatif_term.proofs.InkLemmas.{plain_read}
use Rattle.indicatif_term.proofs.PartingLemmas.{ones_visible}
use Rattle.indicatif_term.proofs.SharedLemmas.{printable_chars}
use Rattle.indicatif_term.proofs.engine.comparing.inked_count.Goals as goal

pub returns-then-is_printable-clause-count : goal.returns-then-is_printable-clause-count
returns-then-is_printable-clause-count c =
    let text = c.args.text.now in
    let p = printable_chars text (subst (All (IsInRange 0x20 0x7E)) c.as_bytes.ensures.value (c.is_printable.ensures c.if-is_printable.true)) in
    omega (arith, ap length p.0, ap length (ones_visible (chars text) p.1))

pub returns-then-is_printable-clause-read : goal.returns-then-is_printable-clause-read
returns-then-is_printable-clause-read c =
    let text = c.args.text.now in
    plain_read (chars text) (printable_chars text (subst (All (IsInRange 0x20 0x7E)) c.as_bytes.ensures.value (c.is_printable.ensures c.if-is_printable.true))).1

counted : (o : Option ℕ) (cs : List ℕ) → IfSome o (λ n. (n ≡ min (length cs) (2 ^ 64 - 1)) × AllByRecursion (λ c. width_of c ≡ 1) cs) → IfSome o (λ n. n ≡ min (length (visible cs)) (2 ^ 64 - 1))
counted None cs h = tt
counted (Some n) cs h = h.0 ∙ ap (λ xs. min (length xs) (2 ^ 64 - 1)) (sym (ones_visible cs h.1))

all_read : (o : Option ℕ) (cs : List ℕ) → IfSome o (λ n. (n ≡ min (length cs) (2 ^ 64 - 1)) × AllByRecursion (λ c. width_of c ≡ 1) cs) → IfSome o (λ n. IsRead cs)
all_read None cs h = tt
all_read (Some n) cs h = plain_read cs h.1

pub returns-then-not-has_escape-clause-count : goal.returns-then-not-has_escape-clause-count
returns-then-not-has_escape-clause-count c = counted c.narrow_count.result (chars c.args.text.now) c.narrow_count.ensures

pub returns-then-not-has_escape-clause-read : goal.returns-then-not-has_escape-clause-read
returns-then-not-has_escape-clause-read c = all_read c.narrow_count.result (chars c.args.text.now) c.narrow_count.ensures

pub returns-clause-count : goal.returns-clause-count
returns-clause-count c =
    let ps = pieces_of_text (chars c.args.text.now) in
    let rest = c.into_iter-piece-iterator.ensures.into_iter_gives ∙ c.pieces-piece-items.ensures in
    let t = YieldsList-end (YieldsList-from_first text_piece (λ left. left) ps rest) c.loop-piece.yielded _ c.loop-piece.yielded_by _ _ c.in-None.is c.next.ensures.steps in
    c.loop-piece.invariant.count ∙ ap (λ xs. min (length (flat_map run_text xs)) (2 ^ 64 - 1)) t.0 ∙ ap (λ xs. min (length xs) (2 ^ 64 - 1)) (runs_are_visible (chars c.args.text.now))

pub returns-clause-read : goal.returns-clause-read
returns-clause-read c =
    let ps = pieces_of_text (chars c.args.text.now) in
    let rest = c.into_iter-piece-iterator.ensures.into_iter_gives ∙ c.pieces-piece-items.ensures in
    let t = YieldsList-end (YieldsList-from_first text_piece (λ left. left) ps rest) c.loop-piece.yielded _ c.loop-piece.yielded_by _ _ c.in-None.is c.next.ensures.steps in
    let seen = map text_piece c.loop-piece.yielded in
    let none : (c.loop-piece.depth.groups == 0) ≡ true = grind (arith, nat_tests) in
    record {
      single = subst (AllByRecursion (λ c. width_of c ≡ 1)) (ap (flat_map run_text) t.0 ∙ runs_are_visible (chars c.args.text.now)) c.loop-piece.invariant.single;
      tidy = ap (is_tidy false 0) (sym t.0 ∙ sym (append-nil seen)) ∙ c.loop-piece.invariant.tidy [] ∙ none;
    }
