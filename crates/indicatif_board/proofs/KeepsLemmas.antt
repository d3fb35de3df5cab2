-- What a call keeps of a board, and calls one after another.
use Rattle.std.proofs.Common.{◌≡◌, ◌∙◌, Bool, true, false, refl, ap, option_map}
use Rattle.std.specs.Prelude.{◌||◌, IsFalse}
use Rattle.std.proofs.lemmas.Bool.{or_parts}
use Rattle.indicatif_term.specs.Calls.{TermView}
use Rattle.indicatif_bar.specs.Machines.{target_of}
use Rattle.indicatif_board.specs.Multi.{IsNowhere, Keeps, terminal_of}
use Rattle.indicatif_board.specs.declared.multi.Board.{Board}

-- a second call wrote nothing where the first began nowhere
stays_nowhere : {K T : Type 0} (view : T → TermView) (a b : Board K T) → terminal_of b ≡ terminal_of a → IsNowhere view a → IsNowhere view b
stays_nowhere view a b same none = ap (λ o. (target_of (option_map view o)).columns) same ∙ none

neither : (v w : Bool) → IsFalse v → IsFalse w → IsFalse (v || w)
neither true w off more = off
neither false w off more = more

module _ {K T : Type 0} (view : T → TermView) (a b c : Board K T) where
  -- one call, then another
  pub kept_both : (v w : Bool) → Keeps view v a b → Keeps view w b c → Keeps view (v || w) a c
  kept_both v w k l = (
    l.0 ∙ k.0,
    l.1 ∙ k.1,
    λ off. let parts = or_parts v w off in l.2 parts.1 ∙ k.2 parts.0,
    λ none. neither v w (k.3 none) (l.3 (stays_nowhere view a b (k.2 (k.3 none)) none)),
  )

  -- then one that writes nothing
  pub kept_quietly : (v : Bool) → Keeps view v a b → Keeps view false b c → Keeps view v a c
  kept_quietly v k l = (l.0 ∙ k.0, l.1 ∙ k.1, λ off. l.2 refl ∙ k.2 off, k.3)
