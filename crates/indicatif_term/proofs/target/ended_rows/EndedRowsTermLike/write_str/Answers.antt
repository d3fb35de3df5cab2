use Rattle.std.proofs.Common.{chars, refl, sym, ap}
use Rattle.indicatif_term.specs.EndedRows.{Together}
use Rattle.indicatif_term.proofs.OwnRowsLemmas.{goes_on, writes_quietly}
use Rattle.indicatif_term.proofs.EndedRowLemmas.{from_weaker, carry_weaker, fall_fails, then_falls}
use Rattle.indicatif_term.proofs.EndedTurnLemmas.{within_together}
use Rattle.indicatif_term.proofs.EndedTextLemmas.{draws_by, draws_not}
use Rattle.indicatif_term.proofs.EndedTextLemmas.{text_after, plain_visible}
use Rattle.indicatif_term.proofs.target.ended_rows.EndedRowsTermLike.write_str.Goals as goal

pub returns-in_err-begin : goal.returns-in_err-begin
returns-in_err-begin g c =
    let view = g.T.TermLike.view in
    let r = c.from_residual.result in
    record {
      writes = writes_quietly _ r (fall_fails view {Q' = Together view} {g = λ s. s} r c.from_residual.ensures.1 c.in_err-begin.ensures).carries.quiet;
      draws = λ plain. draws_not view r _ c.from_residual.ensures.1 c.in_err-begin.ensures;
    }

pub returns : goal.returns
returns g c =
    let view = g.T.TermLike.view in
    let r = c.put.result in
    let text = c.args.s.now in
    record {
      writes = writes_quietly _ r (goes_on r c.in_ok-begin.ensures.carries.quiet c.put.ensures.carries.quiet);
      draws = λ plain.
          let all = plain_visible (chars text) plain in
          let put = then_falls view r c.in_ok-begin.ensures (from_weaker view r refl (λ s m x. (x, all)) c.put.ensures) in
          draws_by view r text (carry_weaker view r (λ s m m' x y. within_together view y) put.carries) (λ s m x. sym (ap (λ t. t.screen) (text_after text s c.utf8.s all)));
    }
