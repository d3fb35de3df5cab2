use Rattle.std.proofs.Common.{arith, ◌+◌, ◌≡◌, ◌∙◌, [], refl, sym, ap, Err, map, take, length}
use Rattle.std.proofs.lemmas.Result.{err_from_is_err_and}
use Rattle.std.proofs.lemmas.List.{take_all}
use Rattle.indicatif_text.specs.declared.refusal.Refusal.TheVariants.{Memory}
use Rattle.indicatif_term.specs.Lists.{fitting, lines_of}
use Rattle.indicatif_term.specs.Counts.{line_counts}
use Rattle.indicatif_term.specs.Lines.{bar_lines}
use Rattle.indicatif_term.specs.Standing.{placed}
use Rattle.indicatif_term.specs.Inside.Changing.{placed_height}
use Rattle.indicatif_term.specs.Inside.Owned.{through}
use Rattle.indicatif_term.specs.Inside.Plans.{frame_lines}
use Rattle.indicatif_term.specs.Inside.Layouts.{own_lines, IsLaid}
use Rattle.indicatif_term.specs.declared.engine.layout.Plan.{Plan}
use Rattle.indicatif_term.proofs.OwnedLemmas.{first_within}
use Rattle.indicatif_term.proofs.LayoutLemmas.{nothing_laid, nothing_passes, no_bars, frame_refused, some_line, passing_all, passing_height, planned, still_laid}
use Rattle.indicatif_term.proofs.FrontLemmas.{front_next}
use Rattle.indicatif_term.proofs.LaidLemmas.{laid_none, laid_as, laid_still, own_laid, own_count}
use Rattle.indicatif_term.proofs.engine.layout.lay_frame.Goals as goal

pub members-init : goal.members-init
members-init c =
    let w = c.args.window.columns in
    let h = c.args.window.rows in
    let frame = c.args.asked.now.frame.now in
    let n = c.requires.none in
    record {
      within = omega arith;
      blanks_are = refl;
      front = record {
        summed = (nothing_laid h c.args.laid.now.plan n.plan_is).0;
        narrow = refl;
        passing = ap (λ (q : Plan). q.passing) n.plan_is ∙ nothing_passes w h c.args.asked.now.pass frame;
        laid = laid_as w h c.args.beside.now.lines.now [] [] [] _ _ refl (sym (no_bars w))
            (laid_none w h c.args.beside.now.lines.now _ c.requires.blank refl n.plan_is n.none_changed n.none_more);
      };
    }

pub lay_member-requires-clause-summed : goal.lay_member-requires-clause-summed
lay_member-requires-clause-summed c = c.members.invariant.front.summed

pub returns-in_err-lay_member-clause-laid : goal.returns-in_err-lay_member-clause-laid
returns-in_err-lay_member-clause-laid c =
    let x = err_from_is_err_and c.from_residual.result c.from_residual.ensures.1 in
    rw (x.1 ∙ ap Err x.2) (frame_refused c.args.window.columns c.args.asked.now.frame.now c.members.at c.index-frame-at.result (omega arith)
    (sym c.index-frame-at.is) c.in_err-lay_member.field-0.0 c.in_err-lay_member.ensures.laid)

pub returns-in_err-lay_member-clause-memory : goal.returns-in_err-lay_member-clause-memory
returns-in_err-lay_member-clause-memory c = λ e.
    let x = err_from_is_err_and c.from_residual.result c.from_residual.ensures.1 in
    let same : c.in_err-lay_member.field-0.0 ≡ Memory = cc (sym (x.1 ∙ ap Err x.2) ∙ e) in
    some_line c.args.asked.now.frame.now c.members.at c.index-frame-at.result (omega arith) (sym c.index-frame-at.is) (c.in_err-lay_member.ensures.memory (ap Err same))

pub pass_standing-at-requires-clause-front : goal.pass_standing-at-requires-clause-front
pass_standing-at-requires-clause-front c =
    let w = c.args.window.columns in
    let h = c.args.window.rows in
    let pass = c.args.asked.now.pass in
    let frame = c.args.asked.now.frame.now in
    let i = c.members.at in
    let l = c.lay_member.new.laid in
    let s = c.index-frame-at.result in
    front_next w h pass i c.passing_behind-laid.result c.args.beside.now.lines.now frame s c.members.laid l (omega arith) (sym c.index-frame-at.is) c.members.invariant.front
    c.in_ok-lay_member.ensures.laid c.passing_behind-laid.ensures

pub through_run-passing-requires-clause-all : goal.through_run-passing-requires-clause-all
through_run-passing-requires-clause-all c = own_count c.args.window.columns c.args.window.rows c.args.beside.now.lines.now _ _ c.members.laid c.members.invariant.front.laid

pub through_run-passing-requires-clause-within : goal.through_run-passing-requires-clause-within
through_run-passing-requires-clause-within c =
    let w = c.args.window.columns in
    let h = c.args.window.rows in
    let frame = c.args.asked.now.frame.now in
    let i = c.members.at in
    let old = c.members.invariant.front in
    let all : take i frame ≡ frame = take_all i frame (omega arith) in
    let laid = rw all at old.laid.laid in
    omega (arith, passing_all w h c.args.asked.now.pass i _ frame (omega arith) old.passing, first_within w h c.args.asked.now.pass (map bar_lines frame), laid.lines_are)

pub height_passing-laid-requires-clause-within : goal.height_passing-laid-requires-clause-within
height_passing-laid-requires-clause-within c =
    let l = c.members.laid in
    let k : l.blanks + l.plan.lines ≡ l.at + length l.more.items = own_count c.args.window.columns c.args.window.rows c.args.beside.now.lines.now _ _ l c.members.invariant.front.laid in
    omega (arith, k, c.through_run-passing.ensures.within)

pub returns-clause-laid : goal.returns-clause-laid
returns-clause-laid c =
    let w = c.args.window.columns in
    let h = c.args.window.rows in
    let pass = c.args.asked.now.pass in
    let frame = c.args.asked.now.frame.now in
    let on = c.args.beside.now.lines.now in
    let i = c.members.at in
    let old = c.members.invariant.front in
    let l = c.members.laid in
    let p = l.plan in
    let n = c.through_run-passing.result in
    let r = c.height_passing-laid.result in
    let all : take i frame ≡ frame = take_all i frame (omega arith) in
    let laid : IsLaid w h on (frame_lines frame) (lines_of w (map bar_lines frame)) l = rw all at old.laid in
    let own = own_lines on l in
    let out = own_laid w h on (frame_lines frame) (lines_of w (map bar_lines frame)) l laid in
    let passing = passing_all w h pass i _ frame (omega arith) old.passing in
    let front = passing_height w h n (map bar_lines frame) p own out in
    let s = old.summed in
    let p' : Plan = record p { passing = n; passing_rows = r } in
    let rows : r ≡ placed_height (placed (take n own)) = omega (arith, c.height_passing-laid.ensures, front.1, s.fit, c.args.window.small) in
    record {
      narrow = rw all at old.narrow;
      plan_is = planned w h pass (map bar_lines frame) p' (line_counts own) (still_laid h n r _ p _ out)
          (c.through_run-passing.ensures.run ∙ ap (λ k. through k (line_counts own)) passing
          ∙ ap (through (length (fitting h (lines_of w (take pass (map bar_lines frame)))))) out.counts_are)
          (rows ∙ front.0);
      is_summed = record { fit = s.fit; lines_fit = s.lines_fit; passing_in = omega (arith, rows, front.1) };
      is_laid = laid_still w h n r on (frame_lines frame) (lines_of w (map bar_lines frame)) l laid;
    }
