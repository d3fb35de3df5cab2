use Rattle.std.proofs.Common.{◌≡◌, ◌≤◌, ◌<◌, ℕ, length, map, Some}
use Rattle.std.specs.Prelude.{IsFalse}
use Rattle.std.specs.List.{list_any}
use Rattle.std.specs.Vec.{vec_len, vec_capacity}
use Rattle.indicatif_bar.specs.Commands.{BarRecord}
use Rattle.indicatif_bar.specs.Runs.{Runs, wrote}
use Rattle.indicatif_board.specs.BoardBars.{board_bars}
use Rattle.indicatif_board.specs.Boards.{BoardState, drawn_of, board}
use Rattle.indicatif_board.specs.Calls.{timed, call_of, answer_of, AreTurnedAway, acts_on}
use Rattle.indicatif_board.specs.Multi.{IsIn, Keeps, StaysInSlot, StaysOrComes, mark_of, slots_of, known}
use Rattle.indicatif_board.specs.Slots.{slot_of}
use Rattle.indicatif_board.proofs.multi.Board.run.Given as goal

abbrev pub invariant-loop-call : goal.invariant-loop-call
invariant-loop-call g l = record {
  counted : vec_len l.answers ≡ length l.yielded;
  room : length l.fn.calls.items ≤ vec_capacity l.answers;
  ran : (mark : ℕ) (s : BoardState (BarRecord g.row.K.Denot)) → IsIn mark l.fn.self s → (m : BoardState (BarRecord g.row.K.Denot)) × IsIn mark l.self m ×
      Runs (board (board_bars g.K.Tracks.means) mark) (map timed l.yielded) (map answer_of l.answers.items) (known g.T.TermLike.view l.fn.self) s (known g.T.TermLike.view l.self) m;
  keeps : Keeps g.T.TermLike.view (list_any (λ answer. wrote (drawn_of (answer_of answer))) l.answers.items) l.fn.self l.self;
  foreign : AreTurnedAway (mark_of l.fn.self) (map timed l.yielded) (map answer_of l.answers.items);
  records : (number : ℕ) → IsFalse (list_any (λ call. acts_on (mark_of l.fn.self) number (call_of call.0)) l.yielded) → StaysOrComes number l.answers.items l.fn.self l.self;
  slots : (number slot : ℕ) → slot_of number (slots_of l.fn.self) ≡ Some slot → StaysInSlot number slot l.self × (number < (slots_of l.self).made);
}
