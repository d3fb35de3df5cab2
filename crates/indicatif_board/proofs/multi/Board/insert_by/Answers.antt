use Rattle.std.proofs.Common.{refl, ap, sym, subst, option_map}
use Rattle.indicatif_bar.specs.Machines.{target_of}
use Rattle.indicatif_bar.specs.Runs.{CallMade}
use Rattle.indicatif_board.specs.BoardBars.{board_bars}
use Rattle.indicatif_board.specs.Boards.{Insert, Refused, or_refused, inserted, board}
use Rattle.indicatif_board.specs.Calls.{entrant_of, given, place_at}
use Rattle.indicatif_board.specs.Multi.{known}
use Rattle.indicatif_board.proofs.AnchorLemmas.{foreign_candidate, absent_candidate, foreign_anchor, absent_anchor, has_or_lacks}
use Rattle.indicatif_board.proofs.BoardCallLemmas.{made_by_insertion, made_turned_away}
use Rattle.indicatif_board.proofs.BarRecordLemmas.{none_taken, none_seated}
use Rattle.indicatif_board.proofs.multi.Board.insert_by.Goals as goal

pub returns-in-Ok : goal.returns-in-Ok
returns-in-Ok g c =
    let old = c.args.self.now in
    let at = place_at c.args.at in
    let entrant = entrant_of c.args.candidate in
    let has = c.in-Ok.ensures.anchor in
    let taken = c.insert_at.ensures in
    record {
      keeps = taken.keeps;
      quiet = taken.quiet;
      turned = taken.turned;
      leads = λ now mark s inside.
          let tracks = g.K.Tracks.means in
          let there = c.in-Ok.ensures.found mark s inside in
          let d = taken.inserted mark s at inside there.1 in
          let before = known g.T.TermLike.view old in
          let same = ap (option_map g.T.TermLike.view) (taken.keeps.2 refl) in (
            d.0,
            d.1,
            subst (λ o. CallMade (board (board_bars tracks) mark) before o (Insert at entrant, now) s (given c.insert_at.result) d.0) (sym same)
                (made_by_insertion tracks mark before at entrant now s (given c.insert_at.result) d.0 there.0 (d.3 (target_of before)) taken.quiet d.2),
          );
      foreign = λ named. taken.foreign (foreign_candidate old entrant at has named);
      not_member = λ named. taken.not_member (absent_candidate old entrant at has named);
      beside = λ _ named. taken.foreign named;
      absent = λ _ named. taken.not_member named;
      records = taken.records;
      slot = taken.slot at c.in-Ok.ensures.seat;
    }

pub returns-in-Err : goal.returns-in-Err
returns-in-Err g c =
    let old = c.args.self.now in
    let at = place_at c.args.at in
    let entrant = entrant_of c.args.candidate in
    let e = c.in-Err.refusal in
    let lacks = c.in-Err.ensures.anchor in
    record {
      keeps = (refl, refl, λ _. refl, λ _. refl);
      quiet = c.in-Err.ensures.quiet;
      turned = refl;
      leads = λ now mark s inside.
          let tracks = g.K.Tracks.means in
          let before = known g.T.TermLike.view old in
          let why = c.in-Err.ensures.found mark s inside in (
            s,
            inside,
            made_turned_away tracks mark before before (Insert at entrant) now s e (ap (λ o. or_refused o (inserted mark at entrant s) s) why) c.in-Err.ensures.quiet,
          );
      foreign = λ named. (ap Refused (foreign_anchor old entrant e at lacks named), refl);
      not_member = λ named. (ap Refused (absent_anchor old entrant e at lacks named), refl);
      beside = λ has _. absurd (has_or_lacks old e at lacks has);
      absent = λ has _. absurd (has_or_lacks old e at lacks has);
      records = none_taken entrant e old;
      slot = none_seated at entrant e old;
    }
