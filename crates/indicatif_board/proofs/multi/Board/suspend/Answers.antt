use Rattle.std.proofs.Common.{refl, inl, inr, ◌∙◌, ap, option_map}
use Rattle.std.specs.Prelude.{◌||◌}
use Rattle.indicatif_bar.specs.Machines.{target_of}
use Rattle.indicatif_bar.specs.Runs.{wrote}
use Rattle.indicatif_board.specs.Multi.{known}
use Rattle.indicatif_board.proofs.KeepsLemmas.{kept_both}
use Rattle.indicatif_board.proofs.LeavingLemmas.{more_left}
use Rattle.indicatif_board.proofs.multi.Board.suspend.Goals as goal

pub returns-in-Ok-clause-leads : goal.returns-in-Ok-clause-leads
returns-in-Ok-clause-leads g c = λ mark s inside.
    let view = g.T.TermLike.view in
    let cleared = c.in-Ok.ensures.leads mark s inside in
    let drawn = c.redraw-drawn.ensures.leads mark cleared.0 cleared.1 in (
      drawn.0,
      drawn.1,
      inl (c.in-Ok.field-0, (known view c.clear-cleared.new.self, cleared.0, cleared.2, (known view c.redraw-drawn.new.self, drawn.0, drawn.2, (refl, refl)))),
    )

pub returns-in-Err-clause-leads : goal.returns-in-Err-clause-leads
returns-in-Err-clause-leads g c = λ mark s inside.
    let cleared = c.in-Err.ensures.leads mark s inside in
    (cleared.0, cleared.1, inr (c.in-Err.e, refl, (known g.T.TermLike.view c.clear-cleared.new.self, cleared.0, cleared.2, (refl, refl))))

pub returns-in-Ok-clause-records : goal.returns-in-Ok-clause-records
returns-in-Ok-clause-records g c = λ number. c.redraw-drawn.ensures.records number ∙ c.clear-cleared.ensures.records number

pub returns-in-Ok-clause-slots : goal.returns-in-Ok-clause-slots
returns-in-Ok-clause-slots g c =
    more_left c.args.self.now.shown.table c.clear-cleared.new.self.shown.table c.redraw-drawn.new.self.shown.table c.clear-cleared.ensures.slots c.redraw-drawn.ensures.slots

pub returns-in-Ok-clause-nowhere : goal.returns-in-Ok-clause-nowhere
returns-in-Ok-clause-nowhere g c = λ none.
    let same = c.clear-cleared.ensures.keeps.2 (c.clear-cleared.ensures.keeps.3 none) in
    c.redraw-drawn.ensures.keeps.3 (ap (λ o. (target_of (option_map g.T.TermLike.view o)).columns) same ∙ none)

pub returns-in-Ok-clause-keeps : goal.returns-in-Ok-clause-keeps
returns-in-Ok-clause-keeps g c =
    let cleared = wrote c.clear-cleared.result in
    let drawn = wrote c.redraw-drawn.result in (
      cleared || drawn,
      kept_both g.T.TermLike.view c.args.self.now c.clear-cleared.new.self c.redraw-drawn.new.self cleared drawn c.clear-cleared.ensures.keeps c.redraw-drawn.ensures.keeps,
    )

pub returns-in-Err-clause-keeps : goal.returns-in-Err-clause-keeps
returns-in-Err-clause-keeps g c = (wrote c.clear-cleared.result, c.clear-cleared.ensures.keeps)

pub returns-in-Ok-clause-head : goal.returns-in-Ok-clause-head
returns-in-Ok-clause-head g c = c.redraw-drawn.ensures.head
