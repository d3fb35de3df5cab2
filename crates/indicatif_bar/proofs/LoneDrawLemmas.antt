-- What the answer of a lone bar's engine makes of a draw, and what a draw makes of a call.
use Rattle.std.proofs.Common.{◌≡◌, ℕ, ◌<◌, Bool, true, false, List, [], ◌∷◌, map, chars, refl, sym, ◌∙◌, ap, subst, Result, Ok, Err, Option, Some, None, inl, inr}
use Rattle.std.specs.Prelude.{MatchResult, IsFalse}
use Rattle.std.proofs.lemmas.Bool.{false≢true}
use Rattle.indicatif_text.specs.declared.refusal.Refusal.{Refusal}
use Rattle.indicatif_text.specs.declared.refusal.Refusal.TheVariants.{Memory, ElapsedBeyondClock}
use Rattle.indicatif_text.specs.declared.refusal.Drawn.{Drawn}
use Rattle.indicatif_text.specs.declared.refusal.Drawn.TheVariants.{Limited}
use Rattle.indicatif_term.specs.Calls.{TermView}
use Rattle.indicatif_term.specs.Limiters.{Limiter}
use Rattle.indicatif_term.specs.Lines.{text_lines, logged_lines, bar_lines}
use Rattle.indicatif_term.specs.Engines.{engine_term, Fits}
use Rattle.indicatif_term.specs.declared.engine.Engine.{Engine}
use Rattle.indicatif_bar.specs.Trackers.{Tracking}
use Rattle.indicatif_bar.specs.Commands.{BarRecord, Command, SetElapsed, obeyed, is_beyond_clock, takes_memory}
use Rattle.indicatif_bar.specs.Bars.{bar_kind}
use Rattle.indicatif_bar.specs.Kinds.{Kind, Writing, Frame, TextAndFrame, NoFrame, asked_of}
use Rattle.indicatif_bar.specs.Machines.{target_of, Draw, is_no, Leads}
use Rattle.indicatif_bar.specs.Runs.{CallMade, wrote, lines_by, deed_on}
use Rattle.indicatif_bar.specs.Lone.{LoneState, LoneCall, Obey, Log, Clear, lone_frame, draw_asked, draw_of_call, refused_at_once, deed_unless, lone}
use Rattle.indicatif_bar.specs.LoneBars.{LoneIsIn, LoneIsNowhere, lone_bar, LoneLeadsBy, Obeys, ObeysOrNot, RefusesCommand, lone_known, lone_moves, record_of, lone_terminal}
use Rattle.indicatif_bar.specs.Stages.{IsStaged}
use Rattle.indicatif_bar.specs.Shown.{PutsFrame, DrewBy, DrewOn, WritesLinesOn}
use Rattle.indicatif_term.specs.declared.target.lines.Segment.{Segment}
use Rattle.indicatif_bar.specs.Inside.Shown.{StandInSegment}
use Rattle.indicatif_bar.specs.Inside.Lone.{IsTold, IsToldOrNot}
use Rattle.indicatif_bar.specs.declared.ask.Ask.{Ask}
use Rattle.indicatif_bar.specs.declared.ask.Ask.TheVariants.{Forced}
use Rattle.indicatif_bar.specs.declared.lone.LoneBar.{LoneBar}
use Rattle.indicatif_bar.proofs.OutcomeLemmas.{drew, drew_none, drawn_answer, outcome-unasked, writes_nothing}

-- what an engine made of a frame in which the bar's lines stand is what it makes of the bar's frame: where nothing is written, it
-- doesn't look at the frame
pub puts_laid : {T : Type 0} (view : T → TermView) (writing : Writing) (lines : List (List ℕ)) (segment : Segment) (old new : Engine T) (r : Result Unit Refusal) →
    StandInSegment writing lines segment → PutsFrame view writing false 0 (bar_lines segment ∷ []) old new r →
    PutsFrame view writing false 0 (record { bar = 0; lines = map chars lines } ∷ []) old new r
puts_laid view Frame lines segment old new r laid p = subst (λ b. PutsFrame view Frame false 0 (b ∷ []) old new r) laid p
puts_laid view (TextAndFrame text) lines segment old new r laid p = subst (λ b. PutsFrame view (TextAndFrame text) false 0 (b ∷ []) old new r) laid p
puts_laid view NoFrame lines segment old new r laid p =
    record { answers = p.answers; memory = p.memory; counted = p.counted; unchanged = p.unchanged; moves = p.moves; lists = p.lists; paints = p.paints }

either_way : (r : Result Unit Refusal) (A B : Type 0) → A → B → MatchResult r (λ _. A) (λ _. B)
either_way (Ok u) A B a b = a
either_way (Err e) A B a b = b

module _ {K T : Type 0} (m : Tracking K) (view : T → TermView) (takes : Bool) (ask : Ask) (now : ℕ) (writing : Writing) (s : LoneState (BarRecord K))
    (old : Engine T) (bar : BarRecord K) (limiter next : Option Limiter) where
  abbrev d : Draw (LoneState (BarRecord K))
  d = draw_asked (bar_kind m) (target_of (Some (view (engine_term old)))) takes ask now writing s

  -- the bar and the limiter after the draw are those of a state
  abbrev Holds : LoneState (BarRecord K) → Type 0
  Holds x = (bar ≡ x.bar) × (next ≡ x.limiter)

  -- the limiter says what the draw's says
  pub asked_same : limiter ≡ s.limiter → (asked_of ask now limiter).0 ≡ d.allowed
  asked_same limiter_is = ap (λ l. (asked_of ask now l).0) limiter_is

  -- the bar with its limiter asked
  pub holds_ready : bar ≡ s.bar → limiter ≡ s.limiter → next ≡ (asked_of ask now limiter).1 → Holds d.ready
  holds_ready bar_is limiter_is next_is = (bar_is, next_is ∙ ap (λ l. (asked_of ask now l).1) limiter_is)

  pub drew_so : (new : Engine T) (r : Result Unit Refusal) → is_no ask ≡ false → 0 < (view (engine_term old)).columns → d.allowed ≡ true → Fits old s.lists →
      Holds d.ready → PutsFrame view writing false 0 (lone_frame (bar_kind m) (target_of (Some (view (engine_term old)))) now s.bar) old new r →
      DrewBy (lone_bar m) Holds view old new d s.lists (drawn_answer r)
  drew_so new r asked some allowed fits ready q =
      drew (lone_bar m) Holds view old new d s.lists (record { asked = asked; some = some; allowed = allowed; fits = fits; lists_stay = refl; lists_go = refl }) r
      (either_way r (Holds d.written) (Holds d.ready × Holds d.broken) ready (ready, ready))
      (record { answers = q.answers; memory = q.memory; counted = q.counted; unchanged = q.unchanged; lists = q.lists s.lists fits; paints = q.paints s.lists fits })

-- ---- calls, of any kind of bars

module _ {B C : Type 0} (kind : Kind B C) (old : Option TermView) (call : LoneCall C) (now : ℕ) (s : LoneState B) where
  -- a call that isn't refused at once, from its draw
  pub call_of : (new : Option TermView) (answer : Result Drawn Refusal) (next : LoneState B) → refused_at_once kind call now s.bar ≡ None →
      DrewOn (lone kind) old new (draw_of_call kind (target_of old) call now s) s.lists answer next → CallMade (lone kind) old new (call, now) s answer next
  call_of new answer next allowed e =
      let d = draw_of_call kind (target_of old) call now s in
      record {
        leads = subst (λ o. Leads (lone kind) (target_of old) s (deed_unless kind o d s) answer next) (sym allowed) (e.leads s);
        writes = subst (λ o. WritesLinesOn old new (lines_by (deed_unless kind o d s)) s.lists next.lists answer) (sym allowed) e.writes;
      }

  -- one that was refused for want of memory before anything changed
  pub call_short : refused_at_once kind call now s.bar ≡ None → (draw_of_call kind (target_of old) call now s).text_takes ≡ true → CallMade (lone kind) old old (call, now) s (Err Memory) s
  call_short allowed taken =
      let d = draw_of_call kind (target_of old) call now s in
      record {
        leads = subst (λ o. Leads (lone kind) (target_of old) s (deed_unless kind o d s) (Err Memory) s) (sym allowed) (inr (inl (refl, inl (taken, refl))));
        writes = writes_nothing old (lines_by (deed_on (lone kind) old (call, now) s)) s.lists s.lists (Err Memory) refl refl;
      }

  -- one that is refused at once
  pub call_refused : (e : Refusal) → wrote (Err e) ≡ false → refused_at_once kind call now s.bar ≡ Some e → CallMade (lone kind) old old (call, now) s (Err e) s
  call_refused e quiet refused =
      let d = draw_of_call kind (target_of old) call now s in
      record {
        leads = subst (λ o. Leads (lone kind) (target_of old) s (deed_unless kind o d s) (Err e) s) (sym refused) (inl refl);
        writes = writes_nothing old (lines_by (deed_on (lone kind) old (call, now) s)) s.lists s.lists (Err e) quiet refl;
      }

-- ---- calls of a lone bar

-- a command that takes memory for a text isn't refused by the clock
pub memory_in_time : {K : Type 0} (command : Command K) (bar : BarRecord K) (now : ℕ) → takes_memory command bar ≡ true → is_beyond_clock command now ≡ false
memory_in_time (SetElapsed n) bar now e = absurd (false≢true e)
memory_in_time _ bar now e = refl

module _ {K T : Type 0} (m : Tracking K) (view : T → TermView) (old mid new : LoneBar K T) (now : ℕ) (answer : Result Drawn Refusal) where
  -- what a draw of a bar says, which was so before it
  pub record Draws (ask : Ask) (writing : Writing) : Type 0 where
    pub bar : record_of new ≡ record_of mid
    pub silent : IsFalse (wrote answer) → lone_terminal new ≡ lone_terminal mid
    pub nowhere : LoneIsNowhere view mid → IsFalse (wrote answer)
    pub moves : lone_moves new ≡ lone_moves mid
    pub drew : (takes : Bool) (s : LoneState (BarRecord K)) → LoneIsIn mid s → (next : LoneState (BarRecord K)) × LoneIsIn new next
        × DrewOn (lone_bar m) (lone_known view mid) (lone_known view new) (draw_asked (bar_kind m) (target_of (lone_known view mid)) takes ask now writing s) s.lists answer next

  -- a draw on the bar's stage is one of the bar
  pub draws_on : (ask : Ask) (writing : Writing) → is_no ask ≡ false → record_of new ≡ record_of mid → (IsFalse (wrote answer) → lone_terminal new ≡ lone_terminal mid) →
      (LoneIsNowhere view mid → IsFalse (wrote answer)) → lone_moves new ≡ lone_moves mid →
      ((takes : Bool) (s : LoneState (BarRecord K)) → is_no ask ≡ false → mid.shown.bar ≡ s.bar → IsStaged mid.stage s.limiter s.lists →
      (next : LoneState (BarRecord K)) × (new.shown.bar ≡ next.bar) × IsStaged new.stage next.limiter next.lists
      × DrewOn (lone_bar m) (lone_known view mid) (lone_known view new) (draw_asked (bar_kind m) (target_of (lone_known view mid)) takes ask now writing s) s.lists answer next) →
      Draws ask writing
  unfolding LoneIsIn
  draws_on ask writing asked bar silent nowhere moves drew = record {
    bar = bar;
    silent = silent;
    nowhere = nowhere;
    moves = moves;
    drew = λ takes s inside. let d = drew takes s asked inside.0 inside.1 in (d.0, (d.1, d.2), d.3);
  }

  -- a bar that was told a command is in the state after it
  told_in : (command : Command K) (s : LoneState (BarRecord K)) → mid.shown.bar ≡ (obeyed m command old.shown.bar now).0 → mid ≡ record old { shown = record old.shown { bar = mid.shown.bar } } →
      LoneIsIn old s →
      LoneIsIn mid (record s { bar = (obeyed m command s.bar now).0 })
  unfolding LoneIsIn
  told_in command s told rest inside =
      let next : LoneState (BarRecord K) = record s { bar = (obeyed m command s.bar now).0 } in
      subst (λ b. LoneIsIn b next) (sym rest) (
        told ∙ ap (λ bar. (obeyed m command bar now).0) inside.0,
        inside.1,
      )

  -- the record of the bar is that of its state
  bar_in : (s : LoneState (BarRecord K)) → LoneIsIn old s → old.shown.bar ≡ s.bar
  unfolding LoneIsIn
  bar_in s inside = inside.0

  command_leads : (command : Command K) (ask : Ask) → IsTold m old mid command now ask → Draws ask Frame → LoneLeadsBy m view old new (Obey command) now answer
  command_leads command ask told draws = λ s inside.
      let bar = bar_in s inside in
      let next : LoneState (BarRecord K) = record s { bar = (obeyed m command s.bar now).0 } in
      let d = draws.drew (takes_memory command s.bar) next (told_in command s (ap (λ o. o.0) told.as_told) told.rest inside) in
      let asked : ask ≡ (obeyed m command s.bar now).1 = ap (λ o. o.1) told.as_told ∙ ap (λ b. (obeyed m command b now).1) bar in
      let Drew = λ (o : Option TermView) (a : Ask).
      DrewOn (lone_bar m) o (lone_known view new) (draw_asked (bar_kind m) (target_of o) (takes_memory command s.bar) a now Frame next) s.lists answer d.0 in
      let in_time : is_beyond_clock command now ≡ false = told.in_time in (
        d.0,
        d.1,
        call_of (bar_kind m) (lone_known view old) (Obey command) now s (lone_known view new) answer d.0 (rw in_time refl)
            (subst (Drew (lone_known view old)) asked (subst (λ b. Drew (lone_known view b) ask) told.rest d.2)),
      )

  pub obeys : (command : Command K) (ask : Ask) → IsTold m old mid command now ask → Draws ask Frame → Obeys m view old new command now answer
  obeys command ask told draws = record {
    bar = draws.bar ∙ ap (λ o. o.0) told.as_told;
    silent = λ quiet. draws.silent quiet ∙ ap lone_terminal told.rest;
    nowhere = λ none. draws.nowhere (ap (λ b. (target_of (lone_known view b)).columns) told.rest ∙ none);
    moves = draws.moves ∙ ap lone_moves told.rest;
    leads = command_leads command ask told draws;
  }

  pub obeys_or_not : (command : Command K) (ask : Ask) → IsToldOrNot m old mid command now (Ok ask) → Draws ask Frame → ObeysOrNot m view old new command now answer
  obeys_or_not command ask told draws = let o = obeys command ask (record { as_told = told.as_told.0; in_time = told.as_told.1; rest = told.rest }) draws in
      record { bar = inl o.bar; silent = o.silent; nowhere = o.nowhere; moves = o.moves; leads = o.leads }

  pub log_leads : (text : List ℕ) → Draws Forced (TextAndFrame (text_lines (logged_lines text))) → LoneLeadsBy m view mid new (Log text) now answer
  log_leads text draws = λ s inside.
      let d = draws.drew false s inside in (d.0, d.1, call_of (bar_kind m) (lone_known view mid) (Log text) now s (lone_known view new) answer d.0 refl d.2)

  pub clear_leads : Draws Forced NoFrame → LoneLeadsBy m view mid new Clear now answer
  clear_leads draws = λ s inside.
      let d = draws.drew false s inside in (d.0, d.1, call_of (bar_kind m) (lone_known view mid) Clear now s (lone_known view new) answer d.0 refl d.2)

-- a draw that isn't asked for
pub draws_none : {K T : Type 0} (m : Tracking K) (view : T → TermView) (old mid : LoneBar K T) (now : ℕ) (ask : Ask) (writing : Writing) → is_no ask ≡ true →
    Draws m view old mid mid now (Ok Limited) ask writing
draws_none m view old mid now ask writing none =
    let known = lone_known view mid in
    record {
      bar = refl;
      silent = λ _. refl;
      nowhere = λ _. refl;
      moves = refl;
      drew = λ takes s inside.
          let d = draw_asked (bar_kind m) (target_of known) takes ask now writing s in
          (s, inside, drew_none (lone_bar m) known d s.lists (Ok Limited) s refl refl (outcome-unasked (target_of known) d none));
    }

-- a command that was refused
module _ {K T : Type 0} (m : Tracking K) (view : T → TermView) (old : LoneBar K T) (command : Command K) (now : ℕ) where
  refused_leads : (e : Refusal) → RefusesCommand command old.shown.bar now e → LoneLeadsBy m view old old (Obey command) now (Err e)
  refused_leads e (inl short) = λ s inside.
      let bar : old.shown.bar ≡ s.bar = bar_in m view old old old now (Err e) s inside in
      let takes : takes_memory command s.bar ≡ true = ap (takes_memory command) (sym bar) ∙ short.1 in
      let in_time : is_beyond_clock command now ≡ false = memory_in_time command s.bar now takes in
      (s, inside, rw short.0 (call_short (bar_kind m) (lone_known view old) (Obey command) now s (rw in_time refl) takes))
  refused_leads e (inr late) = λ s inside.
      let beyond : is_beyond_clock command now ≡ true = late.1 in
      (s, inside, rw late.0 (call_refused (bar_kind m) (lone_known view old) (Obey command) now s ElapsedBeyondClock refl (rw beyond refl)))

  refused_quietly : (e : Refusal) → RefusesCommand command old.shown.bar now e → wrote (Err e) ≡ false
  refused_quietly e (inl short) = ap (λ x. wrote (Err x)) short.0
  refused_quietly e (inr late) = ap (λ x. wrote (Err x)) late.0

  pub refuses : (mid : LoneBar K T) (e : Refusal) → IsToldOrNot m old mid command now (Err e) → ObeysOrNot m view old mid command now (Err e)
  refuses mid e told =
      let same : mid ≡ old = told.rest ∙ ap (λ b. record old { shown = record old.shown { bar = b } }) told.as_told.1 in
      record {
        bar = inr (e, refl, told.as_told.0, same);
        silent = λ quiet. ap lone_terminal same;
        nowhere = λ none. refused_quietly e told.as_told.0;
        moves = ap lone_moves same;
        leads = subst (λ b. LoneLeadsBy m view old b (Obey command) now (Err e)) (sym same) (refused_leads e told.as_told.0);
      }
