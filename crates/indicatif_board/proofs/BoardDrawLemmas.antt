-- What the answer of a board's engine makes of a draw, and how a draw leads the board on, exit by exit.
use Rattle.std.proofs.Common.{◌≡◌, ℕ, ◌<◌, ◌⊎◌, Bool, true, false, List, map, drop, refl, sym, ◌∙◌, ap, subst, Result, Ok, Err, Option, Some}
use Rattle.std.specs.Prelude.{MatchResult, MatchOption}
use Rattle.std.specs.List.{prefix_len}
use Rattle.indicatif_text.specs.declared.refusal.Refusal.{Refusal}
use Rattle.indicatif_text.specs.declared.refusal.Refusal.TheVariants.{NoColumns, Memory}
use Rattle.indicatif_text.specs.declared.refusal.Drawn.{Drawn}
use Rattle.indicatif_text.specs.declared.refusal.Drawn.TheVariants.{Limited, Yes}
use Rattle.indicatif_term.specs.Calls.{TermView}
use Rattle.indicatif_term.specs.Lists.{Lists, forgotten_lists, opening_lists}
use Rattle.indicatif_term.specs.Limiters.{Limiter}
use Rattle.indicatif_term.specs.Lines.{bar_lines}
use Rattle.indicatif_term.specs.Engines.{engine_term, Fits, Paints, is_failure, lists_after}
use Rattle.indicatif_term.specs.declared.engine.Engine.{Engine}
use Rattle.indicatif_term.specs.declared.target.lines.Segment.{Segment}
use Rattle.indicatif_bar.specs.Trackers.{Tracking}
use Rattle.indicatif_bar.specs.Commands.{BarRecord, Command}
use Rattle.indicatif_bar.specs.Machines.{target_of, Target, Machine, Draw, is_no}
use Rattle.indicatif_bar.specs.Kinds.{Writing, asked_of, written_lists}
use Rattle.indicatif_bar.specs.Shown.{PutsFrame, DrewBy, DrewOn}
use Rattle.indicatif_bar.specs.Stages.{IsStaged, stage_known}
use Rattle.indicatif_bar.specs.declared.ask.Ask.{Ask}
use Rattle.indicatif_bar.specs.declared.stage.Stage.{Stage}
use Rattle.indicatif_bar.proofs.OutcomeLemmas.{drew, drawn_answer, drew_withheld, drew_limited}
use Rattle.indicatif_bar.proofs.StageLemmas.{drew_staged}
use Rattle.indicatif_board.specs.BoardBars.{board_bars}
use Rattle.indicatif_board.specs.Members.{leaders, frame_of}
use Rattle.indicatif_board.specs.Boards.{BoardState, Call, Answer, draw_of, board}
use Rattle.indicatif_board.specs.Inside.ShownBars.{named_laid_out, named_layout_takes}
use Rattle.indicatif_board.specs.ShownBars.{HoldsState}
use Rattle.indicatif_board.specs.declared.members.Member.{Member as MemberValue}
use Rattle.indicatif_board.proofs.MemberLemmas.{drop-map, held_with, member_of, laid_lists, laid_limiter, leaders_of}

module _ {K T : Type 0} (tracks : Tracking K) (view : T → TermView) (mark : ℕ) (takes : Bool) (ask : Ask) (now : ℕ)
    (writing : Writing) (s laid : BoardState (BarRecord K)) (lays : Bool) (old : Engine T)
    (frame : List Segment) (members : List (MemberValue K)) (made : ℕ) (bottom : Bool) (holds : HoldsState frame members made bottom laid) where
  abbrev d : Draw (BoardState (BarRecord K))
  d = draw_of (target_of (Some (view (engine_term old)))) takes ask now writing s laid lays

  pub ready_holds : HoldsState frame members made bottom d.ready
  ready_holds = held_with frame members made bottom laid (asked_of ask now laid.limiter).1 laid.lists holds

  pub broken_holds : HoldsState frame members made bottom d.broken
  broken_holds = held_with frame members made bottom laid (asked_of ask now laid.limiter).1 forgotten_lists holds

  pub written_holds : (gone : ℕ) (frame' : List Segment) (members' : List (MemberValue K)) → frame' ≡ drop gone frame → members' ≡ drop gone members → gone ≡ leaders laid.members →
      HoldsState frame' members' made bottom d.written
  written_holds gone frame' members' frame_left members_left gone_is = record {
    members_are = members_left ∙ ap (drop gone) holds.members_are ∙ drop-map member_of gone laid.members ∙ ap (λ k. map member_of (drop k laid.members)) gone_is;
    frame_is = ap (map bar_lines) frame_left ∙ sym (drop-map bar_lines gone frame) ∙ ap (drop gone) holds.frame_is ∙ drop-map _ gone laid.members ∙ ap (λ k. frame_of (drop k laid.members)) gone_is;
    made_is = holds.made_is;
    bottom_is = holds.bottom_is;
  }

  pub frame_drew : (P : BoardState (BarRecord K) → Type 0) (new : Engine T) (r : Result Unit Refusal) (gone : ℕ) → gone ≡ leaders laid.members → is_no ask ≡ false →
      0 < (view (engine_term old)).columns → d.allowed ≡ true →
      laid.lists ≡ s.lists → Fits old s.lists → PutsFrame view writing bottom gone (map bar_lines frame) old new r →
      MatchResult r (λ _. P d.written) (λ _. P d.ready × P d.broken) → DrewBy (board (board_bars tracks) mark) P view old new d s.lists (drawn_answer r)
  frame_drew P new r gone gone_is asked some allowed lists_stay fits puts held =
      let p = subst (λ f. PutsFrame view writing laid.bottom (leaders laid.members) f old new r) holds.frame_is
      (subst (λ k. PutsFrame view writing laid.bottom k (map bar_lines frame) old new r) gone_is (subst (λ b. PutsFrame view writing b gone (map bar_lines frame) old new r) holds.bottom_is puts)) in
      let w = λ (x : Lists). written_lists writing (target_of (Some (view (engine_term old)))) laid.bottom (leaders laid.members) (frame_of laid.members) x in
      drew (board (board_bars tracks) mark) P view old new d s.lists (record { asked = asked; some = some; allowed = allowed; fits = fits; lists_stay = lists_stay; lists_go = refl }) r held
      (record {
        answers = p.answers;
        memory = p.memory;
        counted = p.counted;
        unchanged = p.unchanged;
        lists = subst (λ x. Fits new (lists_after r s.lists (w x))) (sym lists_stay) (p.lists s.lists fits);
        paints = λ plain. subst (λ x. Paints (view (engine_term old)) (view (engine_term new)) (is_failure r) s.lists (lists_after r s.lists (w x))) (sym lists_stay) (p.paints s.lists fits plain);
      })

-- ---- a draw of the board on its stage, whose terminal has an engine, before which a bar was laid out if one was named

module _ {K T : Type 0} (tracks : Tracking K) (view : T → TermView) (mark : ℕ) (takes : Bool) (ask : Ask) (now : ℕ) (writing : Writing)
    (s : BoardState (BarRecord K)) (number : Option ℕ) (stage : Stage T) (engine : Engine T)
    (here : stage.engine ≡ Some engine) (asked : is_no ask ≡ false) (staged : IsStaged stage s.limiter s.lists) where
  abbrev on_target : Target → BoardState (BarRecord K)
  on_target target = named_laid_out tracks target now number s

  abbrev lays : Bool
  lays = named_layout_takes tracks number s

  abbrev drawing : Target → Draw (BoardState (BarRecord K))
  drawing target = draw_of target takes ask now writing s (on_target target) lays

  abbrev there : Target
  there = target_of (Some (view (engine_term engine)))

  abbrev machine : Machine (BoardState (BarRecord K)) (Call (BarRecord K) (Command K)) Answer
  machine = board (board_bars tracks) mark

  fits : Fits engine s.lists
  fits = subst (λ o. MatchOption o (s.lists ≡ opening_lists) (λ e. Fits e s.lists)) here staged.1

  -- it led to a next state, of which P holds, on another stage
  abbrev DrewTo : (BoardState (BarRecord K) → Type 0) → Stage T → Result Drawn Refusal → Type 0
  DrewTo P new answer =
      (next : BoardState (BarRecord K)) × P next × IsStaged new next.limiter next.lists
      × DrewOn machine (stage_known view stage) (stage_known view new) (drawing (target_of (stage_known view stage))) s.lists answer next

  -- nothing was laid out: there are no columns, or no memory
  pub withheld_to : (P : BoardState (BarRecord K) → Type 0) → P s → (e : Refusal) →
      ((e ≡ NoColumns) × ((view (engine_term engine)).columns ≡ 0)) ⊎ ((e ≡ Memory) × (0 < (view (engine_term engine)).columns)) → (e ≡ Memory → lays ≡ true) →
      DrewTo P (record stage { engine = Some engine }) (Err e)
  withheld_to P holds e why short =
      drew_staged machine P (λ x. x.limiter) view stage (record stage { engine = Some engine }) engine engine drawing s.lists (Err e) here refl
      (drew_withheld machine (λ x. P x × (stage.limiter ≡ x.limiter)) view engine (drawing there) s.lists e asked why short fits refl (holds, staged.0))

  -- then the limiter was asked, with this answer
  module _ (some : 0 < (view (engine_term engine)).columns) (allowed : Bool) (limiter : Option Limiter)
      (allowed_is : (asked_of ask now stage.limiter).0 ≡ allowed) (limiter_is : limiter ≡ (asked_of ask now stage.limiter).1)
      (frame : List Segment) (members : List (MemberValue K)) (made : ℕ) (bottom : Bool) (laid : HoldsState frame members made bottom (on_target there)) where
    same : (drawing there).allowed ≡ allowed
    same = sym (ap (λ l. (asked_of ask now l).0) (staged.0 ∙ sym (laid_limiter tracks there now number s))) ∙ allowed_is

    left : limiter ≡ (drawing there).ready.limiter
    left = limiter_is ∙ ap (λ l. (asked_of ask now l).1) (staged.0 ∙ sym (laid_limiter tracks there now number s))

    ready : HoldsState frame members made bottom (drawing there).ready
    ready = ready_holds tracks view mark takes ask now writing s (on_target there) lays engine frame members made bottom laid

    -- it doesn't allow it
    pub limited_to : allowed ≡ false → DrewTo (HoldsState frame members made bottom) (record stage { engine = Some engine; limiter = limiter }) (Ok Limited)
    limited_to not =
        drew_staged machine (HoldsState frame members made bottom) (λ x. x.limiter) view stage (record stage { engine = Some engine; limiter = limiter }) engine engine
        drawing s.lists (Ok Limited) here refl
        (drew_limited machine (λ x. HoldsState frame members made bottom x × (limiter ≡ x.limiter)) view engine (drawing there) s.lists asked some (same ∙ not) fits
        (laid_lists tracks there now number s) (ready, left))

    -- it allows it, and the engine was given a part of the frame, on which it does what it does on the whole one
    module _ (yes : allowed ≡ true) (engine' : Engine T) (gone n least : ℕ) (shown part : List Segment)
        (gone_is : gone ≡ prefix_len (λ m. m.dropped) members) (n_is : n ≡ least) (shown_is : shown ≡ frame) where
      gone_leaders : gone ≡ leaders (on_target there).members
      gone_leaders = gone_is ∙ leaders_of members (on_target there).members laid.members_are

      -- what holds for the part does for the whole
      abbrev Sees : Result Unit Refusal → Type 0
      Sees r = PutsFrame view writing bottom least (map bar_lines part) engine engine' r → PutsFrame view writing bottom gone (map bar_lines shown) engine engine' r

      went_to : (P : BoardState (BarRecord K) → Type 0) (r : Result Unit Refusal) → Sees r → PutsFrame view writing bottom n (map bar_lines part) engine engine' r →
          MatchResult r (λ _. P (drawing there).written × (limiter ≡ (drawing there).written.limiter))
          (λ _. (P (drawing there).ready × (limiter ≡ (drawing there).ready.limiter)) × (P (drawing there).broken × (limiter ≡ (drawing there).broken.limiter))) →
          DrewTo P (record stage { engine = Some engine'; limiter = limiter }) (drawn_answer r)
      went_to P r sees puts held =
          drew_staged machine P (λ x. x.limiter) view stage (record stage { engine = Some engine'; limiter = limiter }) engine engine' drawing s.lists (drawn_answer r) here refl
          (frame_drew tracks view mark takes ask now writing s (on_target there) lays engine frame members made bottom laid (λ x. P x × (limiter ≡ x.limiter)) engine' r gone gone_leaders
          asked some (same ∙ yes) (laid_lists tracks there now number s) fits
          (subst (λ f. PutsFrame view writing bottom gone (map bar_lines f) engine engine' r) shown_is
          (sees (subst (λ k. PutsFrame view writing bottom k (map bar_lines part) engine engine' r) n_is puts)))
          held)

      -- it refused
      pub failed_to : (frame' : List Segment) → frame' ≡ frame → (e : Refusal) → Sees (Err e) → PutsFrame view writing bottom n (map bar_lines part) engine engine' (Err e) →
          DrewTo (HoldsState frame' members made bottom) (record stage { engine = Some engine'; limiter = limiter }) (Err e)
      failed_to frame' is e sees puts =
          went_to (HoldsState frame' members made bottom) (Err e) sees puts (
            (subst (λ f. HoldsState f members made bottom (drawing there).ready) (sym is) ready, left),
            (
              subst (λ f. HoldsState f members made bottom (drawing there).broken) (sym is)
                  (broken_holds tracks view mark takes ask now writing s (on_target there) lays engine frame members made bottom laid),
              left,
            ),
          )

      -- it wrote, and the bars at the head that are gone left
      pub written_to : (frame' : List Segment) (members' : List (MemberValue K)) (made' : ℕ) → frame' ≡ drop gone frame → members' ≡ drop gone members → made' ≡ made →
          Sees (Ok tt) → PutsFrame view writing bottom n (map bar_lines part) engine engine' (Ok tt) →
          DrewTo (HoldsState frame' members' made' bottom) (record stage { engine = Some engine'; limiter = limiter }) (Ok Yes)
      written_to frame' members' made' frame_left members_left made_is sees puts =
          went_to (HoldsState frame' members' made' bottom) (Ok tt) sees puts (
            subst (λ k. HoldsState frame' members' k bottom (drawing there).written) (sym made_is)
                (written_holds tracks view mark takes ask now writing s (on_target there) lays engine frame members made bottom laid gone frame' members' frame_left members_left gone_leaders),
            left,
          )
