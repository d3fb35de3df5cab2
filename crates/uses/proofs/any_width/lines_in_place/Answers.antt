use Rattle.std.proofs.Common.{refl, subst, ◌++◌, arith}
use Rattle.indicatif_term.specs.Screen.{Screen}
use Rattle.indicatif_term.specs.EndedRows.{OwnDraws, BeginOn}
use Rattle.uses.specs.AnyWidth.{two_lines, in_place}
use Rattle.uses.proofs.AnyWidthLemmas.{all_below}
use Rattle.uses.proofs.any_width.lines_in_place.Goals as goal

pub returns : goal.returns
returns g c =
    let view = g.T.TermLike.view in
    let term = c.args.term in
    let first = c.args.first.now in
    let second = c.args.second.now in
    let calls = two_lines first ++ in_place second in
    let far = c.how_far_calls_lead.ensures in
    let drawn = subst (λ own. OwnDraws view calls own c.draw-drawn.new.own c.draw-drawn.result) c.new-own.ensures c.draw-drawn.ensures in
    let stand = c.what_own_rows_draw.ensures.new view calls term c.draw-drawn.new.own c.draw-drawn.result drawn in
    record {
      bytes = stand.bytes;
      told_is = stand.told_is;
      stays = λ real cursor some.
          let s : Screen = record real { columns = (view term).columns; column = 0 } in
          let begins : BeginOn view term s real = record {
            same = record { count = refl; height = refl; row = refl; in_rows = cursor.in_rows; window = cursor.window };
            columns = refl;
            small = omega (arith, c.width-columns.ensures);
            front = refl;
            some_columns = some;
          } in
          stand.stays s real begins real.row (all_below far.line far.cleared far.up s first second (record { in_rows = cursor.in_rows; window = cursor.window })
          c.utf8.first c.requires.first c.utf8.second c.requires.second);
    }
