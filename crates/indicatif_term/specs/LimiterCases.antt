-- Worked cases of limiters.
use Rattle.std.specs.Prelude.{◌≡◌, ℕ, ◌*◌, true, false, [], ◌∷◌, ◌++◌, replicate}
use Rattle.indicatif_term.specs.Limiters.{answers, allowed_moments, draw_limiter}

abbrev pub millisecond : ℕ
millisecond = 1000000

-- 20 draws a second: 20 of 25 at once; then one for each twentieth of a second, and none at a moment before the last count
abbrev pub TwentyAtOnce : Type 0
TwentyAtOnce = answers (draw_limiter 20 0) (replicate 25 0 ++ 49999999 ∷ 50 * millisecond ∷ 49 * millisecond ∷ [])
    ≡ replicate 20 true ++ replicate 5 false ++ false ∷ true ∷ false ∷ []

-- 255 draws a second are one each 3 milliseconds
abbrev pub WholeMilliseconds : Type 0
WholeMilliseconds = (draw_limiter 255 0).interval ≡ 3 * millisecond

-- after any time without draws, one draw leaves 20 in hand, and no more
abbrev pub NoMoreInHand : Type 0
NoMoreInHand = answers (draw_limiter 1 0) (0 ∷ replicate 22 (3600000 * millisecond)) ≡ true ∷ true ∷ replicate 20 true ++ false ∷ []

-- no draw before the making
abbrev pub NoneBefore : Type 0
NoneBefore = allowed_moments (draw_limiter 1 1000) (999 ∷ 0 ∷ 1000 ∷ []) ≡ 1000 ∷ []
