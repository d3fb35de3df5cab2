-- Where the texts of commands are plain, so are those of the steps that they stand for.
use Rattle.std.proofs.Common.{◌≡◌, ℕ, zero, suc, Bool, true, List, [], ◌∷◌, map, refl, sym, subst, Option, Some, None}
use Rattle.std.specs.Prelude.{◌&&◌}
use Rattle.std.specs.List.{AllByRecursion, list_all}
use Rattle.std.specs.Str.{chars, is_utf8}
use Rattle.std.proofs.lemmas.Bool.{and_parts}
use Rattle.std.proofs.lemmas.List.Elements.{All-from_recursion}
use Rattle.std.proofs.lemmas.Str.{IsUtf8-from_is_utf8}
use Rattle.unicode_width.specs.Width.{char_width}
use Rattle.unicode_width.proofs.Computing.{unicode_width}
use Rattle.log.specs.declared.level.Level.TheVariants.{Warn as WarnLevel}
use Rattle.indicatif_text.specs.Columns.{is_plain, visible}
use Rattle.indicatif_bar.specs.declared.style.builders.TheConstants.{TICKS}
use Rattle.indicatif_bar.specs.Builders.{characters_of}
use Rattle.indicatif_bar.specs.PlainLaws.{HasPlainLiteral, IsPlainBar, IsPlainTracker, IsPlainWithTabs}
use Rattle.indicatif_bar.specs.Scripts as script
use Rattle.indicatif_bar.specs.Scripts.{Called}
use Rattle.indicatif_bar.specs.StyleLaws.{IsPlainText}
use Rattle.indicatif_bar.specs.Trackers.{writes_nothing}
use Rattle.indicatif_bar.proofs.ClusterLemmas.{first_are_taken}
use Rattle.indicatif_board.specs.Boards as on
use Rattle.indicatif_board.specs.Boards.{Id, Answer}
use Rattle.indicatif_board.specs.Bridge.{bridge_bytes}
use Rattle.indicatif_board.specs.PlainBoardLaws.{IsPlainCall}
use Rattle.bars_run.specs.Commands.{Action, Message, Tick, Finish, Hide, Abandon, Drop, Remove, Spelled, Add, Log, Warn, Clear, Resize, OfBar, and_then, each}
use Rattle.bars_run.specs.Inside.Players.{unanswered}
use Rattle.bars_run.specs.Player.{Step, calling, bar_at, bar_with_message, call_on, script_step, IsPlain, IsPlainAction}
use Rattle.bars_run.proofs.PlainScriptLemmas.{ArePlainParts}
use Rattle.bars_run.proofs.PlayLemmas.{both}

plain_by : (texts : List (List ℕ)) → list_all (λ text. is_utf8 text && is_plain (chars text)) texts ≡ true → AllByRecursion IsPlainText texts
plain_by [] e = tt
plain_by (t ∷ ts) e =
    let p = and_parts (is_utf8 t && is_plain (chars t)) (list_all (λ text. is_utf8 text && is_plain (chars text)) ts) e in
    let q = and_parts (is_utf8 t) (is_plain (chars t)) p.0 in
    ((IsUtf8-from_is_utf8 t q.0, q.1), plain_by ts p.1)

ticks_tested : list_all (λ text. is_utf8 text && is_plain (chars text)) (characters_of TICKS.now) ≡ true
unfolding char_width unicode_width visible is_plain chars lib.Utf8.encode is_utf8
ticks_tested = refl

nothing_tested : list_all (λ text. is_utf8 text && is_plain (chars text)) ([] ∷ []) ≡ true
unfolding is_plain visible chars is_utf8
nothing_tested = refl

nothing_plain : IsPlainText []
nothing_plain = (plain_by ([] ∷ []) nothing_tested).0

none_with_tabs : IsPlainWithTabs []
none_with_tabs tab = nothing_plain

saying_plain : (text : List ℕ) → IsPlainWithTabs text → IsPlainBar writes_nothing (bar_with_message text)
saying_plain text h = record {
  style = record {
    literals = All-from_recursion HasPlainLiteral (bar_with_message text).style.parts (tt, tt);
    ticks = All-from_recursion IsPlainText (characters_of TICKS.now) (plain_by (characters_of TICKS.now) ticks_tested);
    trackers = All-from_recursion (λ entry. IsPlainTracker writes_nothing entry.1) (bar_with_message text).style.keys tt;
    clusters = first_are_taken;
  };
  message = h;
  prefix = none_with_tabs;
  on_finish = tt;
}

plain_action : (id : Id) (action : Action) → IsPlainAction action → IsPlainCall writes_nothing (call_on id action)
plain_action id (Message text) h = h
plain_action id Tick h = tt
plain_action id Finish h = tt
plain_action id Hide h = tt
plain_action id Abandon h = tt
plain_action id Drop h = tt
plain_action id Remove h = tt

-- the texts of one step
abbrev IsPlainStep : Step → Type 0
IsPlainStep step = ArePlainParts writes_nothing 0 (step ∷ [])

plain_step : (command : Spelled) (step : Step) → script_step command ≡ Some step → IsPlain command → IsPlainStep step
plain_step (Add text) step e h = let q : calling (on.Insert on.End (on.New (bar_with_message text))) ≡ step = cc in subst IsPlainStep q ((saying_plain text h, tt), tt)
plain_step (Log text) step e h = let q : calling (on.Log text) ≡ step = cc in subst IsPlainStep q ((h, tt), tt)
plain_step (Warn text) step e h = let q : calling (on.Log (bridge_bytes WarnLevel text)) ≡ step = cc in subst IsPlainStep q ((h, tt), tt)
plain_step Clear step e h = let q : calling on.Clear ≡ step = cc in subst IsPlainStep q ((tt, tt), tt)
plain_step (Resize size) step e h = let q : script.Size size.columns size.rows ≡ step = cc in subst IsPlainStep q tt
plain_step (OfBar None action) step e h = absurd (cc)
plain_step (OfBar (Some zero) action) step e h = absurd (cc)
plain_step (OfBar (Some (suc n)) action) step e h = let q : calling (call_on (bar_at n) action) ≡ step = cc in subst IsPlainStep q ((plain_action (bar_at n) action h, tt), tt)

plain_more : (step : Step) (steps : List Step) → IsPlainStep step → ArePlainParts writes_nothing 0 steps → ArePlainParts writes_nothing 0 (step ∷ steps)
plain_more (Called calls answers) steps one others = (one.0, others)
plain_more (script.Size w h) steps one others = others

plain_steps : (commands : List Spelled) (steps : List Step) → each script_step commands ≡ Some steps → AllByRecursion IsPlain commands → ArePlainParts writes_nothing 0 steps
plain_steps [] steps e all = let n : [] ≡ steps = cc in subst (ArePlainParts writes_nothing 0) n tt
plain_steps (command ∷ commands) steps e all =
    let p = both (script_step command) (each script_step commands) steps e in
    subst (ArePlainParts writes_nothing 0) (sym p.4) (plain_more p.0 p.1 (plain_step command p.0 p.2 all.0) (plain_steps commands p.1 p.3 all.1))

-- answers count for nothing
answers_apart : (made : List Step) → ArePlainParts writes_nothing 0 (map unanswered made) → ArePlainParts writes_nothing 0 made
answers_apart [] all = tt
answers_apart (Called calls answers ∷ made) all = (all.0, answers_apart made all.1)
answers_apart (script.Size w h ∷ made) all = answers_apart made all

-- a script whose first call has no text
pub plain_made : (commands : List Spelled) (steps made : List Step) (bottom : Bool) → each script_step commands ≡ Some steps → map unanswered made ≡ calling (on.Align bottom) ∷ steps →
    AllByRecursion IsPlain commands → ArePlainParts writes_nothing 0 made
plain_made commands steps made bottom e is all =
    answers_apart made (subst (ArePlainParts writes_nothing 0) (sym is) ((tt, tt), plain_steps commands steps e all))
