-- What each call of a machine keeps, a run of them keeps.
use Rattle.std.proofs.Common.{ℕ, [], ◌∷◌, sym, subst}
use Rattle.indicatif_bar.specs.Machines.{Target, target_of, Machine}
use Rattle.indicatif_bar.proofs.PreservingLemmas.{IsPreserved, leads_preserve}
use Rattle.indicatif_board.specs.OrderLaws.{RunsPreserve}

module _ {S C A : Type 0} (m : Machine S C A) (P : S → Type 0) where
  pub runs_preserve : ((target : Target) (call : C) (now : ℕ) (s : S) → P s → IsPreserved m P (m.deed target call now s)) → RunsPreserve m P
  runs_preserve keeps [] [] old s new next run is = subst P (sym run.1) is
  runs_preserve keeps (call ∷ calls) (answer ∷ answers) old s new next run is =
      runs_preserve keeps calls answers run.0 run.1 new next run.3
      (leads_preserve m P (target_of old) s run.1 (m.deed (target_of old) call.0 call.1 s) answer (keeps (target_of old) call.0 call.1 s is) run.2.leads is)
  runs_preserve keeps [] (answer ∷ answers) old s new next run is = absurd run
  runs_preserve keeps (call ∷ calls) [] old s new next run is = absurd run
