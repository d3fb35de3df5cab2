-- What contracts see of a board: its terminal, whether it is in a given state, and what a call leads to.
use Rattle.std.specs.Prelude.{◌≡◌, ◌≢◌, ◌⊎◌, ℕ, ◌+◌, ◌-◌, min, length, ◌==◌, Bool, IsTrue, IsFalse, List, [], ◌∷◌, Option, Some, None, MatchOption, option_map, Result, Err, refl}
use Rattle.std.specs.List.{list_any, position_or_len}
use Rattle.indicatif_text.specs.declared.refusal.Refusal.{Refusal}
use Rattle.indicatif_text.specs.declared.refusal.Drawn.{Drawn}
use Rattle.indicatif_text.specs.declared.refusal.Drawn.TheVariants.{Yes}
use Rattle.indicatif_term.specs.Calls.{TermView}
use Rattle.indicatif_term.specs.Engines.{engine_moves, engine_term}
use Rattle.indicatif_bar.specs.Trackers.{Tracking}
use Rattle.indicatif_bar.specs.Commands.{BarRecord, Command}
use Rattle.indicatif_bar.specs.Lone.{Obey}
use Rattle.indicatif_bar.specs.LoneBars.{RecordGoes}
use Rattle.indicatif_bar.specs.Machines.{target_of}
use Rattle.indicatif_bar.specs.Runs.{CallMade, Runs}
use Rattle.indicatif_bar.specs.Scripts.{Sizing}
use Rattle.indicatif_bar.specs.Stages.{IsStaged}
use Rattle.indicatif_board.specs.BoardBars.{board_bars}
use Rattle.indicatif_board.specs.Boards.{BoardState, Id, Location, End, Index, FromBack, Before, After, Entrant, New, Old, Call, Insert, Remove, Drop, Clear, Redraw, Align, Tell, Answer, Given, Drew, Refused, says, drawn_of, board}
use Rattle.indicatif_board.specs.Calls.{answer_of, gives}
use Rattle.indicatif_board.specs.Slots.{SlotTable, LeavesHead, LeavesFrom, next_slot, seated, slot_of}
use Rattle.indicatif_board.specs.ShownBars.{AreShownAs, HeadIsOwned, record_on}
use Rattle.indicatif_board.specs.declared.calls.Answer.{Answer as AnswerValue}
use Rattle.indicatif_board.specs.declared.multi.Board.{Board}

-- how many of the bars with these numbers, from the top, stand before a new one at this place
abbrev pub seat_in : Location → List ℕ → ℕ
seat_in End order = length order
seat_in (Index i) order = min i (length order)
seat_in (FromBack i) order = length order - i
seat_in (Before anchor) order = position_or_len (λ n. n == anchor.number) order
seat_in (After anchor) order = position_or_len (λ n. n == anchor.number) order + 1

module _ {K T : Type 0} where
  -- its terminal; none if the target is hidden
  abbrev pub terminal_of : Board K T → Option T
  terminal_of b = option_map engine_term b.stage.engine

  -- whether its draws use cursor moves alone, if that shows the same; nothing if the target is hidden
  abbrev pub moves_of : Board K T → Option Bool
  moves_of b = option_map engine_moves b.stage.engine

  -- the slots of its bars
  abbrev pub slots_of : Board K T → SlotTable
  slots_of b = b.shown.table

  -- the board with this mark may be in this state; on a hidden target it has no rows. Only the numbers of the rows are kept, so many states fit one board; clauses hold of each
  unfoldable pub IsIn : ℕ → Board K T → BoardState (BarRecord K) → Type 0
  IsIn mark b s = (b.mark ≡ mark) × AreShownAs b.shown s × IsStaged b.stage s.limiter s.lists

  -- what is known of its terminal
  abbrev pub known : (T → TermView) → Board K T → Option TermView
  known view b = option_map view (terminal_of b)

  -- its draws write nothing: its target is hidden, or a terminal without columns
  abbrev pub IsNowhere : (T → TermView) → Board K T → Type 0
  IsNowhere view b = (target_of (known view b)).columns ≡ 0

  -- the mark that its bars have
  abbrev pub mark_of : Board K T → ℕ
  mark_of b = b.mark

  -- its mark and its way of drawing are unchanged; if it was not written, so is its terminal; and a hidden target or a terminal without columns was not written
  abbrev pub Keeps : (T → TermView) → Bool → Board K T → Board K T → Type 0
  Keeps view written old new =
      (mark_of new ≡ mark_of old) × (moves_of new ≡ moves_of old) × (IsFalse written → terminal_of new ≡ terminal_of old) × (IsNowhere view old → IsFalse written)

  -- the record of its bar with a number; none if no call may name that bar: it was removed, dropped or never given
  abbrev pub record_at : ℕ → Board K T → Option (BarRecord K)
  record_at number b = record_on number b.shown

  -- a bar of this board that no call may name: it was removed, dropped or never given
  abbrev pub IsAbsent : Board K T → Id → Type 0
  IsAbsent b id = (id.mark ≡ b.mark) × (record_at id.number b ≡ None)

  -- such a bar is to be inserted
  abbrev pub EntersAbsent : Board K T → Entrant (BarRecord K) → Type 0
  EntersAbsent b (New bar) = ⊥
  EntersAbsent b (Old id) = IsAbsent b id

  -- a call was refused with this, and nothing has changed
  abbrev pub TurnsAway : Refusal → Answer → Board K T → Board K T → Type 0
  TurnsAway refusal answer old new = (answer ≡ Refused refusal) × (new ≡ old)

  -- every bar's record is unchanged
  abbrev pub RecordsStay : Board K T → Board K T → Type 0
  RecordsStay old new = (number : ℕ) → record_at number new ≡ record_at number old

  -- every bar's record but that of this number is unchanged
  abbrev pub OtherRecordsStay : ℕ → Board K T → Board K T → Type 0
  OtherRecordsStay number old new = (other : ℕ) → other ≢ number → record_at other new ≡ record_at other old

  -- a bar got a command: if it has a record, the record changes as a lone bar's does
  abbrev pub RecordObeys : Tracking K → ℕ → Command K → ℕ → Result Drawn Refusal → Board K T → Board K T → Type 0
  RecordObeys m number command now answer old new =
      (bar : BarRecord K) → record_at number old ≡ Some bar →
      (bar' : BarRecord K) × (record_at number new ≡ Some bar') × RecordGoes m (Obey command) now answer bar bar'

  -- a candidate was to be inserted: a new bar's number had no record, and has the bar's now; if it was refused, or was there already, all records are unchanged
  abbrev pub RecordsTake : Entrant (BarRecord K) → Answer → Board K T → Board K T → Type 0
  RecordsTake (New bar) (Given id) old new =
      (id.mark ≡ old.mark) × (record_at id.number old ≡ None) × (record_at id.number new ≡ Some bar) × OtherRecordsStay id.number old new
  RecordsTake _ _ old new = RecordsStay old new

  -- a candidate was to be inserted at a place: a new bar stands there, and has the slot that was freed last, or if none was free the first unused one; if it was refused, or was there already, each
  -- bar keeps its place and its slot
  abbrev pub SlotsTake : Location → Entrant (BarRecord K) → Answer → Board K T → Board K T → Type 0
  SlotsTake at (New bar) (Given id) old new =
      (slot_of id.number (slots_of new) ≡ Some (next_slot (slots_of old))) × (slots_of new ≡ seated (seat_in at (slots_of old).order) (slots_of old))
  SlotsTake at _ _ old new = slots_of new ≡ slots_of old

  -- a bar was to be removed: it left its slot, or it wasn't there
  abbrev pub SlotsGive : Option (BarRecord K) → Board K T → Board K T → Type 0
  SlotsGive out old new = MatchOption out (slots_of new ≡ slots_of old) (λ bar. LeavesFrom (slots_of old) (slots_of new))

  -- only bars at the head of the order left, each its slot
  abbrev pub SlotsLeft : Board K T → Board K T → Type 0
  SlotsLeft old new = LeavesHead (slots_of old) (slots_of new)

  -- the bar at the head of the order, if there is one, has a record
  abbrev pub HeadHasRecord : Board K T → Type 0
  HeadHasRecord b = HeadIsOwned b.shown

  -- how a call with this answer changes the slots
  abbrev pub SlotsChange : Call (BarRecord K) (Command K) → Answer → Board K T → Board K T → Type 0
  SlotsChange (Insert at entrant) answer old new = SlotsTake at entrant answer old new
  SlotsChange (Remove id) answer old new = (slots_of new ≡ slots_of old) ⊎ LeavesFrom (slots_of old) (slots_of new)
  SlotsChange (Drop id) answer old new = SlotsLeft old new
  SlotsChange (Align bottom) answer old new = slots_of new ≡ slots_of old
  SlotsChange _ answer old new = SlotsLeft old new × (answer ≡ Drew Yes → HeadHasRecord new) × (answer ≢ Drew Yes → slots_of new ≡ slots_of old)

  -- the bar with this number has this slot, or has left the order
  abbrev pub StaysInSlot : ℕ → ℕ → Board K T → Type 0
  StaysInSlot number slot b = (slot_of number (slots_of b) ≡ Some slot) ⊎ (slot_of number (slots_of b) ≡ None)

  -- a call named a bar: a bar of this board changes as stated, and the others are unchanged; for another board's bar, all are unchanged
  abbrev pub NamedGoes : Id → Type 0 → Board K T → Board K T → Type 0
  NamedGoes id goes old new = (id.mark ≡ old.mark → goes) × (id.mark ≢ old.mark → RecordsStay old new) × OtherRecordsStay id.number old new

  -- how a call with this answer changes the records
  abbrev pub RecordsChange : Tracking K → Call (BarRecord K) (Command K) → ℕ → Answer → Board K T → Board K T → Type 0
  RecordsChange m (Insert at entrant) now answer old new = RecordsTake entrant answer old new
  RecordsChange m (Remove id) now answer old new = NamedGoes id (record_at id.number new ≡ None) old new
  RecordsChange m (Drop id) now answer old new = NamedGoes id (record_at id.number new ≡ None) old new
  RecordsChange m (Tell id command) now answer old new = NamedGoes id (RecordObeys m id.number command now (drawn_of answer) old new) old new
  RecordsChange m _ now answer old new = RecordsStay old new

  -- the record of a number is unchanged; or it had none, and one of these answers gave the bar with that number
  abbrev pub StaysOrComes : ℕ → List AnswerValue → Board K T → Board K T → Type 0
  StaysOrComes number answers old new =
      (record_at number new ≡ record_at number old) ⊎ ((record_at number old ≡ None) × IsTrue (list_any (λ answer. gives number (answer_of answer)) answers))

  -- for each state that the board may have been in, there is one that it is in now, and the call led from one to the other with this answer
  abbrev pub LeadsBy : Tracking K → (T → TermView) → Board K T → Board K T → Call (BarRecord K) (Command K) → ℕ → Answer → Type 0
  LeadsBy m view old new call now answer =
      (mark : ℕ) (s : BoardState (BarRecord K)) → IsIn mark old s →
      (next : BoardState (BarRecord K)) × IsIn mark new next × CallMade (board (board_bars m) mark) (known view old) (known view new) (call, now) s answer next

  -- a board was suspended: it was cleared and drawn again; or the clear was refused, and nothing drawn
  abbrev pub Suspends : Tracking K → (T → TermView) → Board K T → Board K T → ℕ → Result Drawn Refusal → Type 0
  Suspends m view old new now answer =
      (mark : ℕ) (s : BoardState (BarRecord K)) → IsIn mark old s → let machine = board (board_bars m) mark in
      (next : BoardState (BarRecord K)) × IsIn mark new next
      × (((cleared : Drawn) × Runs machine ((Clear, now) ∷ (Redraw, now) ∷ []) (Drew cleared ∷ says answer ∷ []) (known view old) s (known view new) next)
      ⊎ ((e : Refusal) × (answer ≡ Err e) × Runs machine ((Clear, now) ∷ []) (Refused e ∷ []) (known view old) s (known view new) next))

-- a board whose terminal gets another size
abbrev pub board_sizing : {K : Type 0} → (m : Tracking K) (mark : ℕ) → Sizing (board (board_bars m) mark)
board_sizing m mark = record { put = λ l s. record s { lists = l }; lists_are = λ l s. refl }
