-- Characters of the same width that are taken at once.
use Rattle.std.specs.Prelude.{List, ◌++◌, ◌≡◌, ◌≤◌, ◌<◌, ◌+◌, ◌*◌, ℕ, zero, suc, length, All}
use Rattle.std.specs.Int.{IsInRange}
use Rattle.indicatif_text.specs.Columns.{width_of}

-- printable ASCII
abbrev pub IsPrintable : ℕ → Type 0
IsPrintable = IsInRange 0x20 0x7E

-- these bytes repeated, and then the rest
abbrev pub times_then : ℕ → List ℕ → List ℕ → List ℕ
times_then zero unit rest = rest
times_then (suc n) unit rest = unit ++ times_then n unit rest

-- a character of the given width
abbrev pub HasWidth : ℕ → ℕ → Type 0
HasWidth columns c = width_of c ≡ columns

-- the given number of characters of this width are taken off the front
pub record PassesRun (columns : ℕ) (before : List ℕ) (count : ℕ) (after : List ℕ) : Type 0 where
  pub run : List ℕ
  pub whole : before ≡ run ++ after
  pub many : length run ≡ count
  pub takes : All (HasWidth columns) run

-- where a run of `count` characters of k columns ends that begins at a column of a row of w: `rows` rows further, and at which column
pub data EndsAt (w column k count rows place : ℕ) : Type 0 where
  -- in the row in which it begins
  Here : rows ≡ 0 → column + k * count ≡ place → place ≤ w → EndsAt w column k count rows place
  -- in a later one: `first` characters fit into the first row, `each` into each row after it, and `last` are left for the last one
  Later : (first each turns last : ℕ) → column + k * first ≤ w → w < column + k * first + k → k * each ≤ w → w < k * each + k → 0 < last → last ≤ each
      → count ≡ first + each * turns + last → rows ≡ turns + 1 → place ≡ k * last → EndsAt w column k count rows place
