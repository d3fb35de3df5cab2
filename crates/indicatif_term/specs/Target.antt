-- Where bars are drawn: a terminal with a rate, or nowhere. And where they stand if a draw has fewer rows than the last one.
use Rattle.std.specs.Prelude.{ℕ, Bool, true, false, not, ◌||◌, List, Option, Some, None, option_map, string_bytes, codes, bytes_eq}
use Rattle.std.specs.declared.io.ErrorKind.TheVariants.{Other}
use Rattle.indicatif_term.specs.Limiters.{Limiter}
use Rattle.indicatif_term.specs.Term.{WriterTerm}
use Rattle.indicatif_term.specs.declared.target.Facts.{Facts}
use Rattle.indicatif_term.specs.declared.target.MultiProgressAlignment.{MultiProgressAlignment}
use Rattle.indicatif_term.specs.declared.target.MultiProgressAlignment.TheVariants.{Top, Bottom}

module _ {T : Type 0} where
  -- a target's terminal; none if it is hidden
  abbrev pub term_of : Option (T × Option Limiter) → Option T
  term_of target = option_map (λ t. t.0) target

  -- a target's limiter; none if it is hidden, or if it draws without limit
  abbrev pub limiter_of : Option (T × Option Limiter) → Option Limiter
  limiter_of None = None
  limiter_of (Some t) = t.1

-- whether a terminal of this kind has no cursor moves: its kind is unknown, or it is `dumb`
abbrev pub is_dumb : Option (List ℕ) → Bool
is_dumb None = true
is_dumb (Some kind) = bytes_eq kind (codes "dumb")

-- whether bars are hidden, by these facts
abbrev pub hides : Facts → Bool
hides facts = not facts.attended || is_dumb (option_map string_bytes facts.term)

-- a new terminal of the given size, behind a writer
abbrev pub term_behind : {W : Type 0} → W → Facts → WriterTerm W
term_behind w facts = record { writer = w; columns = facts.cols; rows = facts.rows; faults = 0; kind = Other }

-- whether bars stand at the bottom
abbrev pub is_bottom : MultiProgressAlignment → Bool
is_bottom Top = false
is_bottom Bottom = true
