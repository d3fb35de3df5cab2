-- How often a board draws that asks a limiter.
use Rattle.std.proofs.Common.{◌≡◌, ℕ, Bool, true, false, refl, ◌∙◌, Option, Some, None, if◌then◌else◌}
use Rattle.std.specs.Prelude.{◌^◌, not, ◌==◌}
use Rattle.indicatif_text.specs.declared.refusal.Refusal.{Refusal}
use Rattle.indicatif_term.specs.Lists.{fate}
use Rattle.indicatif_term.specs.Limiters.{Limiter}
use Rattle.indicatif_term.specs.declared.target.Keep.{Keep}
use Rattle.indicatif_term.specs.declared.target.Keep.TheVariants.{Absent, Passed, Behind}
use Rattle.indicatif_bar.specs.Machines.{Target, Draw, Deed, AtOnce, Draws}
use Rattle.indicatif_bar.specs.Bounds.{AsksLimiter, DeedAsks, IsLimited}
use Rattle.indicatif_bar.proofs.BoundLemmas.{allowed_without}
use Rattle.indicatif_board.specs.LimitLaws.{IsAllowed}
use Rattle.indicatif_board.specs.Members.{is_member, is_head, without, said_of}
use Rattle.indicatif_board.specs.Boards.{BoardState, BoardKind, Call, Insert, Remove, Drop, Log, BarLog, Clear, Redraw, Align, Tell, Answer, Location, Entrant, New, Old, turned_away, anchor_turned_away, or_refused, inserted, draws, left_by, left_on, ownerless_on, board}

-- the limiter of a board
abbrev limit : {B : Type 0} → BoardState B → Option Limiter
limit s = s.limiter

-- a bar that leaves the order, or is ownerless, changes no limiter
taken_out_limits : {B : Type 0} (number : ℕ) (s : BoardState B) (there : Bool) → limit (if there then record s { members = without number s.members } else s) ≡ limit s
taken_out_limits number s true = refl
taken_out_limits number s false = refl

left_by_limits : {B : Type 0} (target : Target) (number : ℕ) (keep : Keep) (s : BoardState B) → limit (left_by target number keep s) ≡ limit s
left_by_limits target number Absent s = refl
left_by_limits target number Passed s = refl
left_by_limits target number Behind s = refl

either_limits : {B : Type 0} (head : Bool) (one other s : BoardState B) → limit one ≡ limit s → limit other ≡ limit s → limit (if head then one else other) ≡ limit s
either_limits true one other s a b = a
either_limits false one other s a b = b

left_limits : {B : Type 0} (target : Target) (number : ℕ) (s : BoardState B) → limit (left_on target number s) ≡ limit s
left_limits target number s =
    either_limits (is_head number s.members) (left_by target number (fate number s.lists) s) (ownerless_on number s) s (left_by_limits target number (fate number s.lists) s) refl

module _ {B : Type 0} (now : ℕ) (s : BoardState B) where
  -- what a call is about to do leaves the limiter to its draw
  abbrev Asks : Deed (BoardState B) Answer → Type 0
  Asks deed = DeedAsks limit now s deed

  unless_refused : (refused : Option Refusal) (deed : Deed (BoardState B) Answer) → Asks deed → Asks (or_refused refused deed s)
  unless_refused None deed asks = asks
  unless_refused (Some e) deed asks = refl

  either : (b : Bool) (one other : Deed (BoardState B) Answer) → Asks one → Asks other → Asks (if b then one else other)
  either true one other a b = a
  either false one other a b = b

  drawn : (d : Draw (BoardState B)) → AsksLimiter limit now s d → Asks (draws d)
  drawn d asks = (asks, (λ x. refl), λ x. refl)

  insert_asks : (mark : ℕ) (at : Location) (entrant : Entrant B) → Asks (inserted mark at entrant s)
  insert_asks mark at (New bar) = either (s.made == 2 ^ 64) _ _ refl refl
  insert_asks mark at (Old id) = unless_refused (turned_away mark id s) _ refl

-- every call of a board leaves its limiter to its draw
pub board_limited : {B C : Type 0} (kind : BoardKind B C) (mark : ℕ) → IsLimited (board kind mark) (λ s. s.limiter)
board_limited kind mark target (Insert at entrant) now s = unless_refused now s (anchor_turned_away mark at s) _ (insert_asks now s mark at entrant)
board_limited kind mark target (Remove id) now s =
    either now s (not (id.mark == mark)) _ _ refl (taken_out_limits id.number s (is_member id.number s.members))
board_limited kind mark target (Drop id) now s =
    unless_refused now s (turned_away mark id s) _
    (record { before = refl; decides = refl; asked = refl; written = refl; broken = refl }, left_limits target id.number, λ x. refl)
board_limited kind mark target (Log text) now s = drawn now s _ (record { before = refl; decides = refl; asked = refl; written = refl; broken = refl })
board_limited kind mark target (BarLog id text) now s =
    unless_refused now s (turned_away mark id s) _ (drawn now s _ (record { before = refl; decides = refl; asked = refl; written = refl; broken = refl }))
board_limited kind mark target Clear now s = drawn now s _ (record { before = refl; decides = refl; asked = refl; written = refl; broken = refl })
board_limited kind mark target Redraw now s = drawn now s _ (record { before = refl; decides = refl; asked = refl; written = refl; broken = refl })
board_limited kind mark target (Align bottom) now s = refl
board_limited kind mark target (Tell id command) now s =
    unless_refused now s (turned_away mark id s) _
    (unless_refused now s (said_of None (λ bar. kind.bars.refused command bar now) id.number s.members) _
    (drawn now s _ (record { before = refl; decides = refl; asked = refl; written = refl; broken = refl })))

-- without a limiter each draw is allowed
free_by : {S A : Type 0} (limiter : S → Option Limiter) (now : ℕ) (s : S) (deed : Deed S A) → limiter s ≡ None → DeedAsks limiter now s deed → IsAllowed deed
free_by limiter now s (AtOnce takes answer next) none asks = tt
free_by limiter now s (Draws d ends breaks) none asks = asks.0.decides ∙ allowed_without d.ask now (limiter s) none

pub board_free : {B C : Type 0} (kind : BoardKind B C) (mark : ℕ) (target : Target) (call : Call B C) (now : ℕ) (s : BoardState B) → s.limiter ≡ None →
    IsAllowed ((board kind mark).deed target call now s)
board_free kind mark target call now s none = free_by (λ x. x.limiter) now s ((board kind mark).deed target call now s) none (board_limited kind mark target call now s)
