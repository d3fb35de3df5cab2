use Rattle.std.proofs.Common.{◌≡◌, ◌∷◌, length, ap, sym, ◌∙◌, arith, append-nil}
use Rattle.std.proofs.Math.Nat.{pos_of_ne-zero}
use Rattle.std.proofs.lemmas.Bool.{eqb-true, eqb-false}
use Rattle.indicatif_text.specs.Format.{after_point}
use Rattle.indicatif_text.proofs.CountLemmas.{length-count}
use Rattle.indicatif_text.proofs.QuotientLemmas.{behind_point, nothing_behind, length-behind}
use Rattle.indicatif_text.proofs.format.quotients.joined.Goals as goal
use Rattle.indicatif_text.proofs.format.quotients.joined.Goals.{then-not-is_empty, else-not-is_empty}

pub prepend_wide_count-requires : goal.prepend_wide_count-requires
prepend_wide_count-requires c =
    let whole = length-count 39 c.args.whole (omega arith) (omega arith) (omega arith) in
    let behind : c.if-not-is_empty.text ≡ after_point c.args.decimals.now = elim c.if-not-is_empty.branch [
      | then-not-is_empty w ↦ w.text-is ∙ w.prepend.ensures ∙ ap (λ ds. 46 ∷ ds) (w.prepend_bytes.ensures ∙ rw c.new-text.ensures (append-nil c.args.decimals.now))
          ∙ behind_point c.args.decimals.now (pos_of_ne-zero (eqb-false (length c.args.decimals.now) 0 (sym c.is_empty.ensures ∙ w.if-not-is_empty.true)))
      | else-not-is_empty w ↦ w.text-is ∙ c.new-text.ensures ∙ nothing_behind c.args.decimals.now (eqb-true (length c.args.decimals.now) 0 (sym c.is_empty.ensures ∙ w.if-not-is_empty.false))
    ] in
    omega (arith, whole, ap length behind, length-behind c.args.decimals.now, c.requires.short)

pub returns : goal.returns
returns c =
    let behind : c.if-not-is_empty.text ≡ after_point c.args.decimals.now = elim c.if-not-is_empty.branch [
      | then-not-is_empty w ↦ w.text-is ∙ w.prepend.ensures ∙ ap (λ ds. 46 ∷ ds) (w.prepend_bytes.ensures ∙ rw c.new-text.ensures (append-nil c.args.decimals.now))
          ∙ behind_point c.args.decimals.now (pos_of_ne-zero (eqb-false (length c.args.decimals.now) 0 (sym c.is_empty.ensures ∙ w.if-not-is_empty.true)))
      | else-not-is_empty w ↦ w.text-is ∙ c.new-text.ensures ∙ nothing_behind c.args.decimals.now (eqb-true (length c.args.decimals.now) 0 (sym c.is_empty.ensures ∙ w.if-not-is_empty.false))
    ] in
    rw behind at c.prepend_wide_count.ensures
