use Rattle.std.proofs.Common.{refl, ◌≡◌, ◌≤◌, [], ap, length, arith, append_assoc, length-append, if◌then◌else◌}
use Rattle.std.specs.Prelude.{codes, ◌==◌}
use Rattle.std.proofs.lemmas.Bool.{ne_eqb, eq-eqb}
use Rattle.std.proofs.lemmas.Fmt.{length-decimal-le}
use Rattle.indicatif_text.specs.Format.{human_duration}
use Rattle.indicatif_text.proofs.format.durations.words_text.Goals as goal
use Rattle.indicatif_text.proofs.format.durations.words_text.Goals.{then-told-ne1, else-told-ne1}

pub prepend_number-requires : goal.prepend_number-requires
prepend_number-requires c =
    let count = length-decimal-le 20 c.of-told.result.count (omega arith) (omega arith) (omega arith) in
    let short : length c.if-told-ne1.text ≤ 1 = elim c.if-told-ne1.branch [
      | then-told-ne1 w ↦ rw (w.text-is, w.prepend.ensures, c.new-text.ensures) (omega arith)
      | else-told-ne1 w ↦ rw (w.text-is, c.new-text.ensures) (omega arith)
    ] in
    omega (arith, count, short, ap length c.prepend-2.ensures, ap length c.prepend_str.ensures, length-append c.name.result.now c.if-told-ne1.text, c.name.ensures.short)

pub returns : goal.returns
unfolding human_duration
returns c =
    let told = c.of-told.ensures in
    let plural : c.if-told-ne1.text ≡ (if c.of-told.result.count == 1 then [] else codes "s") = elim c.if-told-ne1.branch [
      | then-told-ne1 w ↦ rw (w.text-is, w.prepend.ensures, c.new-text.ensures, ne_eqb c.of-told.result.count 1 (λ e. omega arith)) refl
      | else-told-ne1 w ↦ rw (w.text-is, c.new-text.ensures, eq-eqb c.of-told.result.count 1 (omega arith)) refl
    ] in
    rw (c.prepend_number.ensures, c.prepend-2.ensures, c.prepend_str.ensures, plural, c.name.ensures.name, told.count, told.unit) (simp append_assoc)
