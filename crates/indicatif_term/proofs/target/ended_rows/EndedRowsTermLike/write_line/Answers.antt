use Rattle.std.proofs.Common.{Ok, Err, chars, refl, sym, ap}
use Rattle.indicatif_term.specs.EndedRows.{Together}
use Rattle.indicatif_term.specs.Calls.{line_bytes}
use Rattle.indicatif_term.proofs.OwnRowsLemmas.{fails, goes_on, writes_quietly}
use Rattle.indicatif_term.proofs.EndedRowLemmas.{from_weaker, carry_weaker, fall_fails, then_falls}
use Rattle.indicatif_term.proofs.EndedTurnLemmas.{within_together}
use Rattle.indicatif_term.proofs.EndedTextLemmas.{draws_by, draws_not}
use Rattle.indicatif_term.proofs.EndedTextLemmas.{line_after, plain_visible}
use Rattle.indicatif_term.proofs.target.ended_rows.EndedRowsTermLike.write_line.Goals as goal

pub returns-in_err-begin : goal.returns-in_err-begin
returns-in_err-begin g c =
    let view = g.T.TermLike.view in
    let r = c.from_residual.result in
    record {
      writes = writes_quietly _ r (fall_fails view {Q' = Together view} {g = λ s. s} r c.from_residual.ensures.1 c.in_err-begin.ensures).carries.quiet;
      draws = λ plain. draws_not view r _ c.from_residual.ensures.1 c.in_err-begin.ensures;
    }

pub returns-in_err-put : goal.returns-in_err-put
returns-in_err-put g c =
    let view = g.T.TermLike.view in
    let r = c.from_residual-in_err-put.result in
    let failed = c.from_residual-in_err-put.ensures.1 in
    let e = Err c.in_err-put.field-0.0 in
    record {
      writes = writes_quietly _ r (goes_on r c.in_ok-begin.ensures.carries.quiet (fails r failed c.in_err-put.ensures.carries.quiet));
      draws = λ plain.
          let all = plain_visible (chars c.args.s.now) plain in
          draws_not view r _ failed (then_falls view e c.in_ok-begin.ensures (from_weaker view e refl (λ s m x. (x, all)) c.in_err-put.ensures));
    }

pub returns : goal.returns
returns g c =
    let view = g.T.TermLike.view in
    let r = c.go_to_next_row.result in
    let text = c.args.s.now in
    record {
      writes = writes_quietly _ r (goes_on r c.in_ok-begin.ensures.carries.quiet (goes_on r c.in_ok-put.ensures.carries.quiet c.go_to_next_row.ensures.carries.quiet));
      draws = λ plain.
          let all = plain_visible (chars text) plain in
          let put = then_falls view (Ok tt) c.in_ok-begin.ensures (from_weaker view (Ok tt) refl (λ s m x. (x, all)) c.in_ok-put.ensures) in
          let line = then_falls view r put c.go_to_next_row.ensures in
          draws_by view r (line_bytes text) (carry_weaker view r (λ s m m' x y. within_together view y) line.carries) (λ s m x. sym (ap (λ t. t.screen) (line_after text s c.utf8.s all)));
    }
