-- How often a script draws that asks a limiter.
use Rattle.std.proofs.Common.{◌≡◌, ℕ, ◌-◌, ◌*◌, ◌/◌, ◌<◌, ◌≤◌, Bool, true, false, List, [], ◌∷◌, ◌++◌, length, refl, sym, ◌∙◌, ap, subst, arith, Option, Some, length-append, if◌then◌else◌}
use Rattle.std.proofs.lemmas.Nat.{le-div}
use Rattle.indicatif_term.specs.Calls.{TermView}
use Rattle.indicatif_term.specs.Limiters.{Limiter}
use Rattle.indicatif_term.proofs.LimiterLemmas.{Claim, counted}
use Rattle.indicatif_bar.specs.Machines.{target_of, Machine}
use Rattle.indicatif_bar.specs.Runs.{Runs, deed_on}
use Rattle.indicatif_bar.specs.Bounds.{IsLimited, Spent, drew_unforced, unforced_draws}
use Rattle.indicatif_bar.specs.Scripts.{Sizing, ScriptPart, Called, Size, sized, sized_lists, Plays, unforced_in, ScriptsAreBounded, ScriptsAreBoundedFrom, ScriptsSpend, LeavesLimiter}
use Rattle.indicatif_bar.proofs.BoundLemmas.{call_step, with_step, run_spends, spendings_add_up, spent_none}

-- one more at the front, where it is
one_more : (b : Bool) (n : ℕ) (xs ys : List ℕ) → (if b then n ∷ xs else xs) ++ ys ≡ (if b then n ∷ (xs ++ ys) else (xs ++ ys))
one_more true n xs ys = refl
one_more false n xs ys = refl

module _ {S C A : Type 0} (m : Machine S C A) (z : Sizing m) (limiter : S → Option Limiter) (limited : IsLimited m limiter) (keeps : LeavesLimiter z limiter) where
  -- what is claimed of moments from a state on
  abbrev ClaimFrom : S → List ℕ → Type 0
  ClaimFrom s others = (l : Limiter) → 0 < l.interval → limiter s ≡ Some l → Claim l others

  run_then : (calls : List (C × ℕ)) (answers : List A) (old : Option TermView) (s : S) (new : Option TermView) (next : S) (run : Runs m calls answers old s new next) (others : List ℕ) →
      ClaimFrom next others → ClaimFrom s (unforced_draws m calls answers old s new next run ++ others)
  run_then [] [] old s new next run others claims = λ l positive is. claims l positive (ap limiter run.1 ∙ is)
  run_then (call ∷ calls) (answer ∷ answers) old s new next run others claims = λ l positive is.
      let drew = drew_unforced (deed_on m old call s) (m.tells answer) in
      let u = unforced_draws m calls answers run.0 run.1 new next run.3 in
      subst (Claim l) (sym (one_more drew call.1 u others))
      (with_step m limiter limited l call.1 run.1 drew (u ++ others) positive
      (call_step m limiter l call.1 (target_of old) s (deed_on m old call s) answer run.1 is (limited (target_of old) call.0 call.1 s) run.2.leads)
      (run_then calls answers run.0 run.1 new next run.3 others claims))
  run_then [] (answer ∷ answers) old s new next run others claims = absurd run
  run_then (call ∷ calls) [] old s new next run others claims = absurd run

  script_claims : (parts : List (ScriptPart C A)) (old : Option TermView) (s : S) (new : Option TermView) (next : S) (plays : Plays m z parts old s new next) →
      ClaimFrom s (unforced_in m z parts old s new next plays)
  script_claims [] old s new next plays = λ l positive is last e. absurd (cc e)
  script_claims (Called calls answers ∷ parts) old s new next plays =
      run_then calls answers old s plays.0 plays.1 plays.2 (unforced_in m z parts plays.0 plays.1 new next plays.3) (script_claims parts plays.0 plays.1 new next plays.3)
  script_claims (Size w h ∷ parts) old s new next plays = λ l positive is.
      script_claims parts plays.0 (sized m z w h (target_of old) s) new next plays.4 l positive (keeps (sized_lists w h (target_of old) (m.lists s)) s ∙ is)

  pub scripts_bounded : ScriptsAreBounded m z limiter
  scripts_bounded rate making some small parts old s new next plays is last e =
      let whole : 1 ≤ 1000 / rate = le-div 1 1000 rate some (omega (arith, small)) in
      let positive : 0 < 1000 / rate * 1000000 = omega (arith, whole) in
      let moments = unforced_in m z parts old s new next plays in
      let r = script_claims parts old s new next plays _ positive is last e in
      counted (length moments) (1000 / rate * 1000000) (last - making) positive r.1

  pub scripts_bounded_from : ScriptsAreBoundedFrom m z limiter
  scripts_bounded_from l positive parts old s new next plays is = script_claims parts old s new next plays l positive is

  pub scripts_spend : ScriptsSpend m z limiter
  scripts_spend l positive [] old s new next plays is = (l, ap limiter plays.1 ∙ is, spent_none l)
  scripts_spend l positive (Called calls answers ∷ parts) old s new next plays is =
      let first = run_spends m limiter limited l positive calls answers old s plays.0 plays.1 plays.2 is in
      let rest = scripts_spend first.0 (subst (λ i. 0 < i) (sym first.2.interval) positive) parts plays.0 plays.1 new next plays.3 first.1 in
      let u = unforced_draws m calls answers old s plays.0 plays.1 plays.2 in
      let others = unforced_in m z parts plays.0 plays.1 new next plays.3 in
      (rest.0, rest.1, subst (Spent l rest.0) (sym (length-append u others)) (spendings_add_up l first.0 rest.0 (length u) (length others) first.2 rest.2))
  scripts_spend l positive (Size w h ∷ parts) old s new next plays is =
      scripts_spend l positive parts plays.0 (sized m z w h (target_of old) s) new next plays.4 (keeps (sized_lists w h (target_of old) (m.lists s)) s ∙ is)
