-- What became of a wrapper's bar that was placed after more bytes; and of a bar that tells nothing.
use Rattle.std.proofs.Common.{◌≡◌, ℕ, Option, Some, None, Result}
use Rattle.std.specs.Prelude.{⊤}
use Rattle.indicatif_text.specs.declared.refusal.Drawn.{Drawn}
use Rattle.indicatif_text.specs.declared.refusal.Refusal.{Refusal}
use Rattle.indicatif.specs.declared.wrappers.wrap.ProgressBarIter.{ProgressBarIter}
use Rattle.indicatif.specs.Moves.{Standing, PlacedAfter, Move}
use Rattle.indicatif.specs.Seek.{Seeks, after_move}
use Rattle.indicatif.specs.Wrap.{wrapped_seeks, last_draw_of, PlacesBar}

-- the wrapper was placed as its bar was
pub wrapper_placed : {T P : Type 0} (stands : P → Option Standing) (leads : P → Move → Result Drawn Refusal → P → Type 0) (s t : ProgressBarIter T P) (n : ℕ) (answer : Result Drawn Refusal)
    → PlacedAfter stands leads s.progress (wrapped_seeks s) n answer t.progress (wrapped_seeks t) → last_draw_of t ≡ Some answer → PlacesBar stands leads s n t
wrapper_placed stands leads s t n answer made last = record {
  position = made.position;
  place = made.place;
  here = made.here;
  by_seeks = made.by_seeks;
  moved = record { answer = answer; led = made.led; goes = made.goes; last = last };
}

-- a bar that tells nothing was placed so, at whatever position it stood
pub untold_placed : {P : Type 0} (old new : P) (seeks kept : Seeks) (n position place : ℕ) (answer : Result Drawn Refusal)
    → (place, kept) ≡ after_move 5 10 seeks position n → PlacedAfter (λ _. None) (λ _ _ _ _. ⊤) old seeks n answer new kept
untold_placed old new seeks kept n position place answer is = record {
  position = position;
  place = place;
  here = tt;
  by_seeks = is;
  led = tt;
  goes = tt;
}
