use Rattle.std.proofs.Common.{◌∙◌, ap, arith, slice_index_or}
use Rattle.indicatif_bar.specs.Trackers.{entries}
use Rattle.indicatif_bar.proofs.EachChangedLemmas.{changes_next, changes_all, entries_changed}
use Rattle.indicatif_bar.proofs.tracker.tick_all.Goals as goal

pub loop-entry-preserved : goal.loop-entry-preserved
loop-entry-preserved g c =
    changes_next (λ entry. (entry.0, g.K.Tracks.means.ticked entry.1 c.args.state.now c.args.now))
    c.deref_mut-entry-items.result.now c.loop-entry.entry-items c.loop-entry.entry-index c.entry-item.result _ c.loop-entry-test.true c.loop-entry.invariant
    (ap (λ k. ((slice_index_or c.loop-entry.entry-items c.loop-entry.entry-index c.entry-item.result).0, k)) c.track_tick.ensures)

pub returns : goal.returns
returns g c =
    ap entries (changes_all (λ entry. (entry.0, g.K.Tracks.means.ticked entry.1 c.args.state.now c.args.now))
    c.args.keys.now.items c.deref_mut-entry-items.result.now c.loop-entry.entry-items c.loop-entry.entry-index c.args.keys.now.len
    c.deref_mut-entry-items.ensures.value c.loop-entry.invariant c.loop-entry-test.false (omega (arith, c.args.keys.now.ok.0)))
    ∙ entries_changed (λ k. g.K.Tracks.means.ticked k c.args.state.now c.args.now) c.args.keys.now.items
