-- Where the texts of bars and calls are plain, the lines of each draw are, so that every run is plain.
use Rattle.std.proofs.Common.{◌≡◌, ℕ, zero, suc, ◌-◌, Bool, true, List, [], ◌∷◌, ◌++◌, ◌+◌, min, map, drop, chars, refl, sym, ◌∙◌, subst, Option, Some, None, Result}
use Rattle.std.specs.Prelude.{IsTrue, ◌&&◌, nat_lt, unwrap_or}
use Rattle.std.specs.List.{AllByRecursion}
use Rattle.std.proofs.lemmas.Bool.{cond_both}
use Rattle.std.proofs.lemmas.List.Folds.{list_all-append}
use Rattle.std.proofs.lemmas.List.Elements.{All-from_recursion, recursion_from_All}
use Rattle.std.specs.Option.{option_or}
use Rattle.indicatif_text.specs.declared.refusal.Refusal.{Refusal}
use Rattle.indicatif_text.specs.declared.refusal.Drawn.{Drawn}
use Rattle.indicatif_text.specs.Columns.{is_plain}
use Rattle.indicatif_text.specs.Template.{TemplatePart, LiteralText, LineBreak, KeyText}
use Rattle.indicatif_term.specs.Calls.{TermView}
use Rattle.indicatif_term.specs.Lists.{BarLines}
use Rattle.indicatif_term.specs.Lines.{are_plain, all_lines, text_lines, logged_lines}
use Rattle.indicatif_bar.specs.Machines.{Target, target_of, Machine}
use Rattle.indicatif_bar.specs.Runs.{Runs, AllPlain, lines_by}
use Rattle.indicatif_bar.specs.Kinds.{Kind, Writing, Frame, TextAndFrame, NoFrame, lines_to_write}
use Rattle.indicatif_bar.specs.Lone.{LoneState, LoneCall, Obey, Log, Clear, lone, lone_frame, refused_at_once, deed_unless, draw_of_call}
use Rattle.indicatif_bar.specs.declared.ask.Ask.{Ask}
use Rattle.indicatif_bar.specs.declared.ask.Ask.TheVariants.{No}
use Rattle.indicatif_bar.specs.Progress.{Progress, is_hidden, progress_reset}
use Rattle.indicatif_bar.specs.PositionLimiters.{allow_position}
use Rattle.indicatif_bar.specs.Tabs.{expanded}
use Rattle.indicatif_bar.specs.Measures.{greatest_u64}
use Rattle.indicatif_bar.specs.Trackers.{Tracking, TrackerStep, Ticked, WasReset, tracker_after, telling, changed_trackers}
use Rattle.indicatif_bar.specs.Styles.{BarStyle, lines}
use Rattle.indicatif_bar.specs.Bars.{bar_kind, lines_of_bar}
use Rattle.indicatif_bar.specs.Finishes.{BarFinish, AndLeave, WithMessage as LeaveWithMessage, AndClear, Abandon, AbandonWithMessage}
use Rattle.indicatif_bar.specs.Commands.{BarRecord, Command, Tick, Inc, Dec, SetPosition, TickerTick, Update, SetLength, UnsetLength, IncLength, DecLength, SetMessage, SetPrefix, SetStyle, WithMessage, WithPrefix, WithFinish, SetElapsed, Reset, Finish, FinishUsingStyle, obeyed, tick, ticker_tick, update, with_length, reset, moved_to, finish, with_progress}
use Rattle.indicatif_bar.specs.StyleLaws.{IsPlainText}
use Rattle.indicatif_bar.specs.LineLaws.{IsPlainLiteral, HasPlainTexts}
use Rattle.indicatif_bar.specs.PlainLaws.{IsPlainWithTabs, IsPlainTracker, ArePlainTrackers, HasPlainLiteral, IsPlainFinish, IsPlainBar, IsPlainCommand, IsPlainLoneCall, LoneRunsArePlain, TellersArePlain}
use Rattle.indicatif_bar.proofs.PreservingLemmas.{IsPreserved, leads_preserve}
use Rattle.indicatif_bar.proofs.PlainTextLemmas.{plain_texts_give_plain_lines, plain_lines_are_asked}

-- ---- whatever draws by calls

module _ {S C A : Type 0} (m : Machine S C A) (P : S → Type 0) (Q : C → Type 0) (keeps : (target : Target) (call : C) (now : ℕ) (s : S) → Q call → P s → IsPreserved m P (m.deed target call now s))
    (plain : (target : Target) (call : C) (now : ℕ) (s : S) → Q call → P s → IsTrue (are_plain (lines_by (m.deed target call now s)))) where
  -- a run of plain calls from a plain state
  pub runs_plain : (calls : List (C × ℕ)) (answers : List A) (old : Option TermView) (s : S) (new : Option TermView) (next : S) (run : Runs m calls answers old s new next) →
      P s → AllByRecursion (λ call. Q call.0) calls → AllPlain m calls answers old s new next run × P next
  runs_plain [] [] old s new next run is all = (tt, subst P (sym run.1) is)
  runs_plain (call ∷ calls) (answer ∷ answers) old s new next run is all =
      let others = runs_plain calls answers run.0 run.1 new next run.3
      (leads_preserve m P (target_of old) s run.1 (m.deed (target_of old) call.0 call.1 s) answer (keeps (target_of old) call.0 call.1 s all.0 is) run.2.leads is) all.1 in
      ((λ _. plain (target_of old) call.0 call.1 s all.0 is, others.0), others.1)
  runs_plain [] (answer ∷ answers) old s new next run is all = absurd run
  runs_plain (call ∷ calls) [] old s new next run is all = absurd run

-- ---- lines

both_true : (a b : Bool) → a ≡ true → b ≡ true → (a && b) ≡ true
both_true a b e f = rw (e, f) refl

pub plain_append : (xs ys : List (List ℕ)) → IsTrue (are_plain xs) → IsTrue (are_plain ys) → IsTrue (are_plain (xs ++ ys))
plain_append xs ys a b = list_all-append is_plain xs ys ∙ both_true (are_plain xs) (are_plain ys) a b

-- each bar's lines of a frame
abbrev pub ArePlainFrames : List BarLines → Type 0
ArePlainFrames frame = AllByRecursion (λ s. IsTrue (are_plain s.lines)) frame

pub frame_plain : (frame : List BarLines) → ArePlainFrames frame → IsTrue (are_plain (all_lines frame))
frame_plain [] all = refl
frame_plain (s ∷ frame) all = plain_append s.lines (all_lines frame) all.0 (frame_plain frame all.1)

pub dropped_all : {X : Type 0} (P : X → Type 0) (n : ℕ) (xs : List X) → AllByRecursion P xs → AllByRecursion P (drop n xs)
dropped_all P zero xs all = all
dropped_all P (suc n) [] all = tt
dropped_all P (suc n) (x ∷ xs) all = dropped_all P n xs all.1

-- the text of a draw
abbrev pub IsPlainWriting : Writing → Type 0
IsPlainWriting Frame = Unit {0}
IsPlainWriting (TextAndFrame text) = IsTrue (are_plain text)
IsPlainWriting NoFrame = Unit {0}

pub written_plain : (writing : Writing) (gone : ℕ) (frame : List BarLines) → IsPlainWriting writing → ArePlainFrames frame → IsTrue (are_plain (lines_to_write writing gone frame))
written_plain Frame gone frame text all = frame_plain frame all
written_plain (TextAndFrame lines) gone frame text all =
    plain_append lines (all_lines (drop gone frame)) text (frame_plain (drop gone frame) (dropped_all (λ s. IsTrue (are_plain s.lines)) gone frame all))
written_plain NoFrame gone frame text all = refl

-- ---- bars of a kind

-- bars for which it holds have plain lines, and it holds after commands for which that does
pub record KeepsPlain {B C : Type 0} (kind : Kind B C) (IsBar : B → Type 0) (IsCommand : C → Type 0) : Type 0 where
  pub lines : (bar : B) → IsBar bar → (now columns : ℕ) → IsTrue (are_plain (map chars (kind.lines bar now columns)))
  pub after : (command : C) (bar : B) (now : ℕ) → IsCommand command → IsBar bar → IsBar (kind.after command bar now).0

module _ {B C : Type 0} (kind : Kind B C) (IsBar : B → Type 0) (IsCommand : C → Type 0) (k : KeepsPlain kind IsBar IsCommand) where
  abbrev IsState : LoneState B → Type 0
  IsState s = IsBar s.bar

  abbrev IsCall : LoneCall C → Type 0
  IsCall (Obey command) = IsCommand command
  IsCall (Log text) = IsTrue (are_plain (text_lines (logged_lines text)))
  IsCall Clear = Unit {0}

  deed_keeps : (refused : Option Refusal) (target : Target) (call : LoneCall C) (now : ℕ) (s : LoneState B) → IsCall call → IsState s →
      IsPreserved (lone kind) IsState (deed_unless kind refused (draw_of_call kind target call now s) s)
  deed_keeps (Some e) target call now s c p = p
  deed_keeps None target (Obey command) now s c p =
      let bar = k.after command s.bar now c p in
      (bar, bar, bar, bar, (λ x q. q), λ x q. q)
  deed_keeps None target (Log text) now s c p = (p, p, p, p, (λ x q. q), λ x q. q)
  deed_keeps None target Clear now s c p = (p, p, p, p, (λ x q. q), λ x q. q)

  deed_plain : (refused : Option Refusal) (target : Target) (call : LoneCall C) (now : ℕ) (s : LoneState B) → IsCall call → IsState s →
      IsTrue (are_plain (lines_by (deed_unless kind refused (draw_of_call kind target call now s) s)))
  deed_plain (Some e) target call now s c p = refl
  deed_plain None target (Obey command) now s c p =
      let bar = (kind.after command s.bar now).0 in
      written_plain Frame 0 (lone_frame kind target now bar) tt (k.lines bar (k.after command s.bar now c p) now target.columns, tt)
  deed_plain None target (Log text) now s c p =
      written_plain (TextAndFrame (text_lines (logged_lines text))) 0 (lone_frame kind target now s.bar) c (k.lines s.bar p now target.columns, tt)
  deed_plain None target Clear now s c p = refl

  pub lone_plain : (calls : List (LoneCall C × ℕ)) (answers : List (Result Drawn Refusal)) (old : Option TermView) (s : LoneState B) (new : Option TermView) (next : LoneState B)
      (run : Runs (lone kind) calls answers old s new next) → IsState s → AllByRecursion (λ call. IsCall call.0) calls →
      AllPlain (lone kind) calls answers old s new next run × IsState next
  lone_plain = runs_plain (lone kind) IsState IsCall (λ target call now s c p. deed_keeps (refused_at_once kind call now s.bar) target call now s c p)
      (λ target call now s c p. deed_plain (refused_at_once kind call now s.bar) target call now s c p)

-- ---- bars with a style

module _ {K : Type 0} (m : Tracking K) where
  literals_plain : (style : BarStyle K) (parts : List TemplatePart) → AllByRecursion HasPlainLiteral parts → AllByRecursion (IsPlainLiteral style) parts
  literals_plain style [] all = tt
  literals_plain style (LiteralText text ∷ parts) all = (all.0 style.tab, literals_plain style parts all.1)
  literals_plain style (LineBreak ∷ parts) all = (tt, literals_plain style parts all.1)
  literals_plain style (KeyText key layout ∷ parts) all = (tt, literals_plain style parts all.1)

  trackers_now : (tab : ℕ) (p : Progress) (now : ℕ) (keys : List (List ℕ × K)) → AllByRecursion (λ entry. IsPlainTracker m entry.1) keys →
      AllByRecursion (λ entry. IsPlainText (expanded tab (m.text entry.1 p now))) keys
  trackers_now tab p now [] all = tt
  trackers_now tab p now (entry ∷ keys) all = (all.0 [] p now tab, trackers_now tab p now keys all.1)

  -- trackers that are told something
  trackers_told : (change : K → K) → ((k : K) → IsPlainTracker m k → IsPlainTracker m (change k)) → (keys : List (List ℕ × K)) → AllByRecursion (λ entry. IsPlainTracker m entry.1) keys →
      AllByRecursion (λ entry. IsPlainTracker m entry.1) (changed_trackers change keys)
  trackers_told change keeps [] all = tt
  trackers_told change keeps (entry ∷ keys) all = (keeps entry.1 all.0, trackers_told change keeps keys all.1)

  told_plain_trackers : (change : K → K) → ((k : K) → IsPlainTracker m k → IsPlainTracker m (change k)) → (keys : List (List ℕ × K)) → ArePlainTrackers m keys →
      ArePlainTrackers m (changed_trackers change keys)
  told_plain_trackers change keeps keys all = All-from_recursion (λ entry. IsPlainTracker m entry.1) (changed_trackers change keys)
      (trackers_told change keeps keys (recursion_from_All (λ entry. IsPlainTracker m entry.1) keys all))

  trackers_ticked : (p : Progress) (now : ℕ) (keys : List (List ℕ × K)) → ArePlainTrackers m keys → ArePlainTrackers m (changed_trackers (λ k. m.ticked k p now) keys)
  trackers_ticked p now keys all = told_plain_trackers (λ k. m.ticked k p now) (λ k h steps. h (Ticked p now ∷ steps)) keys all

  trackers_reset : (p : Progress) (now : ℕ) (keys : List (List ℕ × K)) → ArePlainTrackers m keys → ArePlainTrackers m (changed_trackers (λ k. m.was_reset k p now) keys)
  trackers_reset p now keys all = told_plain_trackers (λ k. m.was_reset k p now) (λ k h steps. h (WasReset p now ∷ steps)) keys all

  has_plain_texts : (bar : BarRecord K) (now : ℕ) → IsPlainBar m bar → HasPlainTexts m bar.style bar.progress now
  has_plain_texts bar now h = record {
    literals = All-from_recursion (IsPlainLiteral bar.style) bar.style.parts (literals_plain bar.style bar.style.parts (recursion_from_All HasPlainLiteral bar.style.parts h.style.literals));
    ticks = h.style.ticks;
    clusters = h.style.clusters;
    trackers = All-from_recursion (λ entry. IsPlainText (expanded bar.style.tab (m.text entry.1 bar.progress now))) bar.style.keys
        (trackers_now bar.style.tab bar.progress now bar.style.keys (recursion_from_All (λ entry. IsPlainTracker m entry.1) bar.style.keys h.style.trackers));
    message = h.message bar.progress.tab;
    prefix = h.prefix bar.progress.tab;
  }

  bar_lines_plain : (bar : BarRecord K) → IsPlainBar m bar → (now columns : ℕ) → IsTrue (are_plain (map chars (lines_of_bar m bar now columns)))
  bar_lines_plain bar h now columns =
      cond_both (is_hidden bar.progress) [] (lines m bar.style bar.progress now columns) (λ ls. IsTrue (are_plain (map chars ls))) (λ _. refl)
      (λ _. plain_lines_are_asked (lines m bar.style bar.progress now columns)
      (plain_texts_give_plain_lines m bar.style bar.progress now columns (has_plain_texts bar now h)))

  -- a bar with the same texts, and with plain trackers
  pub same_texts : {bar bar' : BarRecord K} → IsPlainBar m bar → ArePlainTrackers m bar'.style.keys → bar'.style.parts ≡ bar.style.parts → bar'.style.tick_strings ≡ bar.style.tick_strings →
      bar'.style.clusters ≡ bar.style.clusters → bar'.progress.message ≡ bar.progress.message → bar'.progress.prefix ≡ bar.progress.prefix → bar'.on_finish ≡ bar.on_finish → IsPlainBar m bar'
  same_texts h trackers parts ticks clusters message prefix by = record {
    style = record { literals = rw parts h.style.literals; ticks = rw ticks h.style.ticks; trackers = trackers; clusters = rw clusters h.style.clusters };
    message = rw message h.message;
    prefix = rw prefix h.prefix;
    on_finish = rw by h.on_finish;
  }

  -- one with its trackers too
  same_bar : {bar bar' : BarRecord K} → IsPlainBar m bar → bar'.style.keys ≡ bar.style.keys → bar'.style.parts ≡ bar.style.parts → bar'.style.tick_strings ≡ bar.style.tick_strings →
      bar'.style.clusters ≡ bar.style.clusters → bar'.progress.message ≡ bar.progress.message → bar'.progress.prefix ≡ bar.progress.prefix → bar'.on_finish ≡ bar.on_finish → IsPlainBar m bar'
  same_bar h keys = same_texts h (rw keys h.style.trackers)

  told_message : (text : List ℕ) (bar : BarRecord K) → IsPlainWithTabs text → IsPlainBar m bar → IsPlainBar m (with_progress bar (record bar.progress { message = text }))
  told_message text bar c h = record { style = h.style; message = c; prefix = h.prefix; on_finish = h.on_finish }

  told_prefix : (text : List ℕ) (bar : BarRecord K) → IsPlainWithTabs text → IsPlainBar m bar → IsPlainBar m (with_progress bar (record bar.progress { prefix = text }))
  told_prefix text bar c h = record { style = h.style; message = h.message; prefix = c; on_finish = h.on_finish }

  updated_plain : (bar : BarRecord K) (now : ℕ) → IsPlainBar m bar → IsPlainBar m (update m bar now).0
  updated_plain bar now h = same_texts h (trackers_ticked _ now bar.style.keys h.style.trackers) refl refl refl refl refl refl

  told_length : (len : Option ℕ) (bar : BarRecord K) (now : ℕ) → IsPlainBar m bar → IsPlainBar m (with_length m len bar now).0
  told_length len bar now h = updated_plain (with_progress bar (record bar.progress { len = len })) now (same_bar h refl refl refl refl refl refl refl)

  ticker_ticked_plain : (bar : BarRecord K) (now : ℕ) → IsPlainBar m bar → IsPlainBar m (ticker_tick m bar now).0
  ticker_ticked_plain bar now h =
      updated_plain (with_progress bar (record bar.progress { ticks = min (bar.progress.ticks + 1) greatest_u64 })) now (same_bar h refl refl refl refl refl refl refl)

  ticked_plain : (bar : BarRecord K) (now : ℕ) → IsPlainBar m bar → IsPlainBar m (tick m bar now).0
  ticked_plain bar now h =
      cond_both {A = BarRecord K × Ask} bar.ticker (bar, No) (ticker_tick m bar now) (λ o. IsPlainBar m o.0) (λ _. h) (λ _. ticker_ticked_plain bar now h)

  moved_plain : (position : ℕ) (bar : BarRecord K) (now : ℕ) → IsPlainBar m bar → IsPlainBar m (moved_to m position bar now).0
  moved_plain position bar now h =
      let asked = allow_position bar.limiter now in
      let next = record bar { progress = record bar.progress { position = position }; limiter = asked.1 } in
      let same : IsPlainBar m next = same_bar h refl refl refl refl refl refl refl in
      cond_both {A = BarRecord K × Ask} asked.0 (tick m next now) (next, No) (λ o. IsPlainBar m o.0) (λ _. ticked_plain next now same) (λ _. same)

  reset_plain : (bar : BarRecord K) (now : ℕ) → IsPlainBar m bar → IsPlainBar m (reset m bar now)
  reset_plain bar now h = same_texts h (trackers_reset (progress_reset bar.progress now) now bar.style.keys h.style.trackers) refl refl refl refl refl refl

  pub finished_plain : (by : BarFinish) (bar : BarRecord K) (now : ℕ) → IsPlainFinish by → IsPlainBar m bar → IsPlainBar m (finish by bar now).0
  finished_plain AndLeave bar now f h = same_bar h refl refl refl refl refl refl refl
  finished_plain (LeaveWithMessage text) bar now f h = record { style = h.style; message = f; prefix = h.prefix; on_finish = h.on_finish }
  finished_plain AndClear bar now f h = same_bar h refl refl refl refl refl refl refl
  finished_plain Abandon bar now f h = same_bar h refl refl refl refl refl refl refl
  finished_plain (AbandonWithMessage text) bar now f h = record { style = h.style; message = f; prefix = h.prefix; on_finish = h.on_finish }

  obeyed_plain : (command : Command K) (bar : BarRecord K) (now : ℕ) → IsPlainCommand m command → IsPlainBar m bar → IsPlainBar m (obeyed m command bar now).0
  obeyed_plain Tick bar now c h = ticked_plain bar now h
  obeyed_plain TickerTick bar now c h = ticker_ticked_plain bar now h
  obeyed_plain (Inc n) bar now c h = moved_plain _ bar now h
  obeyed_plain (Dec n) bar now c h = moved_plain _ bar now h
  obeyed_plain (SetPosition position) bar now c h = moved_plain position bar now h
  obeyed_plain (Update position len) bar now c h =
      let next = with_progress bar (record bar.progress { position = unwrap_or position bar.progress.position; len = option_or len bar.progress.len }) in
      let same : IsPlainBar m next = same_bar h refl refl refl refl refl refl refl in
      ticked_plain next now same
  obeyed_plain (SetLength n) bar now c h = told_length _ bar now h
  obeyed_plain UnsetLength bar now c h = told_length _ bar now h
  obeyed_plain (IncLength n) bar now c h = told_length _ bar now h
  obeyed_plain (DecLength n) bar now c h = told_length _ bar now h
  obeyed_plain (SetMessage text) bar now c h = updated_plain (with_progress bar (record bar.progress { message = text })) now (told_message text bar c h)
  obeyed_plain (SetPrefix text) bar now c h = updated_plain (with_progress bar (record bar.progress { prefix = text })) now (told_prefix text bar c h)
  obeyed_plain (SetStyle style) bar now c h = record {
    style = record { literals = c.literals; ticks = c.ticks; trackers = c.trackers; clusters = c.clusters };
    message = h.message;
    prefix = h.prefix;
    on_finish = h.on_finish;
  }
  obeyed_plain (WithMessage text) bar now c h = told_message text bar c h
  obeyed_plain (WithPrefix text) bar now c h = told_prefix text bar c h
  obeyed_plain (WithFinish by) bar now c h = record { style = h.style; message = h.message; prefix = h.prefix; on_finish = c }
  obeyed_plain (SetElapsed nanos) bar now c h =
      let next = with_progress bar (record bar.progress { start = now - nanos }) in
      let same : IsPlainBar m next = same_bar h refl refl refl refl refl refl refl in
      cond_both (nat_lt now nanos) bar next (IsPlainBar m) (λ _. h) (λ _. same)
  obeyed_plain Reset bar now c h = reset_plain bar now h
  obeyed_plain (Finish by) bar now c h = finished_plain by bar now c h
  obeyed_plain FinishUsingStyle bar now c h = finished_plain bar.on_finish bar now h.on_finish h
  obeyed_plain _ bar now c h = same_bar h refl refl refl refl refl refl refl

  pub bars_keep_plain : KeepsPlain (bar_kind m) (IsPlainBar m) (IsPlainCommand m)
  bars_keep_plain = record { lines = bar_lines_plain; after = obeyed_plain }

  call_asked : (call : LoneCall (Command K)) → IsPlainLoneCall m call → IsCall (bar_kind m) (IsPlainBar m) (IsPlainCommand m) bars_keep_plain call
  call_asked (Obey command) c = c
  call_asked (Log text) c = plain_lines_are_asked (logged_lines text) c
  call_asked Clear c = tt

  calls_asked : (calls : List (LoneCall (Command K) × ℕ)) → AllByRecursion (λ call. IsPlainLoneCall m call.0) calls →
      AllByRecursion (λ call. IsCall (bar_kind m) (IsPlainBar m) (IsPlainCommand m) bars_keep_plain call.0) calls
  calls_asked [] all = tt
  calls_asked (call ∷ calls) all = (call_asked call.0 all.0, calls_asked calls all.1)

-- a tracker that stays as it is
stays_so : {K : Type 0} (text : K → Progress → ℕ → List ℕ) (k : K) (steps : List TrackerStep) → tracker_after (telling text) k steps ≡ k
stays_so text k [] = refl
stays_so text k (Ticked p now ∷ steps) = stays_so text k steps
stays_so text k (WasReset p now ∷ steps) = stays_so text k steps

pub tellers_are_plain : {K : Type 0} → TellersArePlain K
tellers_are_plain text k plain steps p now = subst (λ x. IsPlainWithTabs (text x p now)) (sym (stays_so text k steps)) (plain p now)

pub lone_runs_are_plain : {K : Type 0} (m : Tracking K) → LoneRunsArePlain m
lone_runs_are_plain m calls answers old s new next run h all =
    lone_plain (bar_kind m) (IsPlainBar m) (IsPlainCommand m) (bars_keep_plain m) calls answers old s new next run h
    (calls_asked m calls (recursion_from_All (λ call. IsPlainLoneCall m call.0) calls all))
