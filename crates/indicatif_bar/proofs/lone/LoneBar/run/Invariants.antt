use Rattle.std.proofs.Common.{◌≡◌, ◌≤◌, length, map, option_map}
use Rattle.std.specs.Prelude.{IsFalse}
use Rattle.std.specs.List.{list_any}
use Rattle.std.specs.Vec.{vec_len, vec_capacity}
use Rattle.indicatif_bar.specs.Commands.{BarRecord}
use Rattle.indicatif_bar.specs.Runs.{Runs, wrote}
use Rattle.indicatif_bar.specs.Lone.{LoneState}
use Rattle.indicatif_bar.specs.LoneBars.{LoneIsIn, LoneIsNowhere, RecordsGo, lone_bar, lone_moves, record_of, lone_terminal, lone_timed}
use Rattle.indicatif_bar.proofs.lone.LoneBar.run.Given as goal

abbrev pub invariant-loop-call : goal.invariant-loop-call
invariant-loop-call g l = record {
  counted : vec_len l.answers ≡ length l.yielded;
  room : length l.fn.calls.items ≤ vec_capacity l.answers;
  ran : (s : LoneState (BarRecord g.row.K.Denot)) → LoneIsIn l.fn.self s → (m : LoneState (BarRecord g.row.K.Denot)) × LoneIsIn l.self m ×
      Runs (lone_bar g.K.Tracks.means) (map lone_timed l.yielded) l.answers.items
      (option_map g.T.TermLike.view (lone_terminal l.fn.self)) s (option_map g.T.TermLike.view (lone_terminal l.self)) m;
  went : RecordsGo g.K.Tracks.means (map lone_timed l.yielded) l.answers.items (record_of l.fn.self) (record_of l.self);
  silent : IsFalse (list_any wrote l.answers.items) → lone_terminal l.self ≡ lone_terminal l.fn.self;
  nowhere : LoneIsNowhere g.T.TermLike.view l.fn.self → IsFalse (list_any wrote l.answers.items);
  moves : lone_moves l.self ≡ lone_moves l.fn.self;
}
