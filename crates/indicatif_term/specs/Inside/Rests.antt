-- The rest of a row that is edited.
use Rattle.std.specs.Prelude.{◌≡◌, ℕ, ◌+◌, ◌≤◌, ◌==◌, ◌++◌, Bool, false, List, length, take, chars, IsCharBoundary}
use Rattle.std.specs.List.{list_any}
use Rattle.indicatif_term.specs.Inside.Inks.{Ink, Inked, read}
use Rattle.indicatif_term.specs.Inside.RowEdits.{rest_bytes}
use Rattle.indicatif_term.specs.Inside.Parting.{tail}
use Rattle.indicatif_term.specs.declared.engine.inks.Colours.{Colours}
use Rattle.indicatif_term.specs.declared.engine.inks.InkedText.{InkedText}
use Rattle.indicatif_term.specs.declared.engine.inks.Alike.{Alike}
use Rattle.indicatif_term.specs.declared.engine.row_edits.Rest.{Rest}

-- the colours that are open
abbrev pub ink_of : Colours → Ink
ink_of i = record { base = i.base.now; group = i.group.now }

-- the cells of the rest of a text
abbrev pub cells : InkedText → List Inked
cells r = read (ink_of r.ink) (chars r.text.now)

-- the bytes to write
abbrev pub left_bytes : Bool → Rest → List ℕ
left_bytes ends r = rest_bytes ends (ink_of r.ink) r.gap r.left (cells r.own) (cells r.other)

-- the cells fit in the columns that are left
pub record FitsRow (r : Rest) : Type 0 where
  pub small : r.gap + r.left ≤ 65535
  pub olds : length (cells r.own) ≤ r.left
  pub news : length (cells r.other) ≤ r.left

-- two texts with the same first n bytes, without an escape character
pub record AreShared (n : ℕ) (old new : List ℕ) : Type 0 where
  pub own : n ≤ length old
  pub other : n ≤ length new
  pub same : take n old ≡ take n new
  pub plain : list_any (λ b. b == 0x1B) (take n old) ≡ false

-- the common prefix of two texts, without an escape character, and what follows in each
pub record ArePlain (old new : List ℕ) (p : Alike) : Type 0 where
  pub own : IsCharBoundary old (length p.front.now)
  pub other : IsCharBoundary new (length p.front.now)
  pub own_is : chars p.own.now ≡ tail (length p.front.now) old
  pub other_is : chars p.other.now ≡ tail (length p.front.now) new
  pub old_is : chars old ≡ chars p.front.now ++ chars p.own.now
  pub new_is : chars new ≡ chars p.front.now ++ chars p.other.now
  pub plain : list_any (λ c. c == 0x1B) (chars p.front.now) ≡ false
