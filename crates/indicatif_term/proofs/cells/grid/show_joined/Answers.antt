use Rattle.std.proofs.Common.{◌∙◌, ◌++◌, get_or, ap, string_bytes, lit<}
use Rattle.indicatif_term.specs.Pictures.{row_text}
use Rattle.indicatif_term.proofs.RowTextLemmas.{first_shown, next_shown}
use Rattle.indicatif_term.proofs.cells.grid.show_joined.Goals.{then-place-gt0+in_ok-push, else-place-gt0}
use Rattle.indicatif_term.proofs.cells.grid.show_joined.Goals as goal

pub loop-place-preserved : goal.loop-place-preserved
loop-place-preserved c =
    let rows = c.args.rows.now in
    let k = c.loop-place.place in
    let d = c.index-rows-place.result in
    let r = get_or rows k d in
    elim c.if-place-gt0.branch [
      | then-place-gt0+in_ok-push w ↦
          c.in_ok-show.ensures.shown ∙ ap (λ x. string_bytes c.if-place-gt0.out ++ row_text x) c.index-rows-place.is
          ∙ ap (λ o. string_bytes o ++ row_text r) w.out-is ∙ ap (λ t. t ++ row_text r) w.in_ok-push.ensures.bytes
          ∙ next_shown rows k d c.loop-place-test.true (string_bytes c.loop-place.out) _ w.if-place-gt0.true c.loop-place.invariant (w.push.ensures.ascii (lit< tt))
      | else-place-gt0 w ↦
          c.in_ok-show.ensures.shown ∙ ap (λ x. string_bytes c.if-place-gt0.out ++ row_text x) c.index-rows-place.is
          ∙ ap (λ o. string_bytes o ++ row_text r) w.out-is
          ∙ first_shown rows k d c.loop-place-test.true (string_bytes c.loop-place.out) w.if-place-gt0.false c.loop-place.invariant
    ]
