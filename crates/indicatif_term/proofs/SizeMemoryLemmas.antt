-- Where no row stands, a size takes memory for the terminal alone.
use Rattle.std.proofs.Common.{◌≡◌, ◌+◌, length, arith, inl, inr, refl}
use Rattle.std.specs.Prelude.{Bool, IsTrue}
use Rattle.indicatif_term.specs.Lists.{Lists, live_height, opening_lists, forgotten_lists, cleared}
use Rattle.indicatif_term.specs.Resizes.{SizeTakes}

none_stands : (own : Bool) (l : Lists) → length l.kept + live_height l.live ≡ 0 → SizeTakes own l → IsTrue own
none_stands own l none takes = elim takes [
  | inl it ↦ it
  | inr stands ↦ absurd (omega (arith, none, stands))
]

pub opening_takes : (own : Bool) → SizeTakes own opening_lists → IsTrue own
opening_takes own = none_stands own opening_lists refl

pub cleared_takes : (own : Bool) (l : Lists) → SizeTakes own (cleared l) → IsTrue own
unfolding cleared
cleared_takes own l = none_stands own (cleared l) refl

pub forgotten_takes : (own : Bool) → SizeTakes own forgotten_lists → IsTrue own
forgotten_takes own = none_stands own forgotten_lists refl
