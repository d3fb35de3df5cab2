-- The effect of an insertion on a board.
use Rattle.std.specs.Prelude.{◌≡◌, ◌≢◌, ℕ, false, None, IsFalse, Result, IfErr}
use Rattle.indicatif_text.specs.declared.refusal.Refusal.TheVariants.{ForeignBar, NotMember}
use Rattle.indicatif_term.specs.Calls.{TermView}
use Rattle.indicatif_bar.specs.Trackers.{Tracking}
use Rattle.indicatif_bar.specs.Commands.{BarRecord}
use Rattle.indicatif_bar.specs.Runs.{wrote}
use Rattle.indicatif_board.specs.Boards.{Location, Before, After, Entrant, Insert, drawn_of}
use Rattle.indicatif_board.specs.Calls.{entrant_of, given, IsForeign, NamesForeign}
use Rattle.indicatif_board.specs.Multi.{IsAbsent, EntersAbsent, Keeps, LeadsBy, RecordsTake, SlotsTake, TurnsAway, mark_of, record_at}
use Rattle.indicatif_board.specs.declared.bar_id.BarId.{BarId}
use Rattle.indicatif_board.specs.declared.calls.Candidate.{Candidate}
use Rattle.indicatif_board.specs.declared.calls.Turned.{Turned}
use Rattle.indicatif_board.specs.declared.multi.Board.{Board}

module _ {K T : Type 0} where
  -- the anchor of a place, if it has one, is a bar of this board that calls may name
  abbrev pub HasAnchor : Board K T → Location → Type 0
  HasAnchor b (Before anchor) = (anchor.mark ≡ mark_of b) × (record_at anchor.number b ≢ None)
  HasAnchor b (After anchor) = (anchor.mark ≡ mark_of b) × (record_at anchor.number b ≢ None)
  HasAnchor b _ = Unit {0}

  -- the anchor is a bar of this board that no call may name; if the place has no anchor, the candidate is such a bar
  abbrev pub NamesAbsent : Board K T → Location → Entrant (BarRecord K) → Type 0
  NamesAbsent b (Before anchor) entrant = IsAbsent b anchor
  NamesAbsent b (After anchor) entrant = IsAbsent b anchor
  NamesAbsent b at entrant = EntersAbsent b entrant

  -- a candidate was to be inserted at a place: it was inserted, or was refused and came back
  pub record Inserts (m : Tracking K) (view : T → TermView) (at : Location) (candidate : Candidate K) (taken : Result BarId (Turned K)) (old new : Board K T) : Type 0 where
    pub keeps : Keeps view false old new
    pub quiet : IsFalse (wrote (drawn_of (given taken)))
    pub turned : IfErr taken (λ t. t.candidate ≡ candidate)
    pub leads : (now : ℕ) → LeadsBy m view old new (Insert at (entrant_of candidate)) now (given taken)
    -- the anchor is looked for first
    pub foreign : NamesForeign (mark_of old) (Insert at (entrant_of candidate)) → TurnsAway ForeignBar (given taken) old new
    pub not_member : NamesAbsent old at (entrant_of candidate) → TurnsAway NotMember (given taken) old new
    -- then the candidate
    pub beside : HasAnchor old at → IsForeign (mark_of old) (entrant_of candidate) → TurnsAway ForeignBar (given taken) old new
    pub absent : HasAnchor old at → EntersAbsent old (entrant_of candidate) → TurnsAway NotMember (given taken) old new
    pub records : RecordsTake (entrant_of candidate) (given taken) old new
    pub slot : SlotsTake at (entrant_of candidate) (given taken) old new
