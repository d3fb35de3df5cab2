-- The bars whose lines a board's draw shows.
use Rattle.std.specs.Prelude.{ℕ}
use Rattle.indicatif_bar.specs.Kinds.{Writing, TextAndFrame}

-- the place of the first bar that is drawn, if this many at the head are gone: below a text those are left out
abbrev pub drawn_from : Writing → ℕ → ℕ
drawn_from (TextAndFrame text) gone = gone
drawn_from _ gone = 0
