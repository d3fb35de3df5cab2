-- A text that is appended piece by piece, and what stands within a range of columns of one character after another.
use Rattle.std.proofs.Common.{◌≤◌, length, take, length-append, arith, ◌≡◌, ℕ, ◌++◌, ◌+◌, List, [], ◌∷◌, append-nil, append_assoc, refl, sym, ◌∙◌, ap, subst, chars, true, false, Bool, if◌then◌else◌}
use Rattle.std.specs.Prelude.{encode_utf8_all, encode_utf8, nat_le, ◌&&◌, sum_by, flat_map}
use Rattle.std.proofs.lemmas.Str.{encodes-append, IsCharBoundary-from_take}
use Rattle.std.specs.Str.{IsUtf8, IsCharBoundary}
use Rattle.std.proofs.lemmas.List.{take_at}
use Rattle.std.proofs.lemmas.List.Sums.{sum_by-append}
use Rattle.indicatif_text.specs.Columns.{width_of, columns_of}
use Rattle.indicatif_text.specs.Pieces.{text_piece, TextPiece, Colour, Run, pieces_of_text}
use Rattle.indicatif_text.specs.declared.pieces.Piece.{Piece}
use Rattle.indicatif_text.proofs.PieceLawLemmas.{runs_are_visible}
use Rattle.indicatif_text.specs.PieceLaws.{run_text}
use Rattle.indicatif_text.specs.Range.{Appends, standing_within}
use Rattle.indicatif_text.specs.Inside.Range.{Grows}

-- ---- a text appended piece by piece

-- nothing was appended
pub none : (old : List ℕ) → Appends old old []
none old = sym (append-nil old)

-- one text was appended, and then another
pub both : (old between new a b : List ℕ) → Appends old between a → Appends between new b → Appends old new (a ++ b)
both old between new a b first second =
    second ∙ ap (λ x. x ++ encode_utf8_all b) first ∙ append_assoc old (encode_utf8_all a) (encode_utf8_all b) ∙ ap (λ x. old ++ x) (sym (encodes-append a b))

-- one character was appended
pub one : (old new : List ℕ) (c : ℕ) → new ≡ old ++ encode_utf8 c → Appends old new (c ∷ [])
one old new c e = e ∙ ap (λ x. old ++ x) (sym (append-nil (encode_utf8 c)))

-- of a whole text the front was appended, and this is left
pub record LeavesText (old out left whole : List ℕ) : Type 0 where
  pub front : List ℕ
  pub parts : whole ≡ front ++ left
  pub is : Appends old out front

pub leaves_all : (old whole : List ℕ) → LeavesText old old whole whole
leaves_all old whole = record { front = []; parts = refl; is = none old }

pub leaves_less : (old out new more left rest whole : List ℕ) → LeavesText old out left whole → left ≡ more ++ rest → Appends out new more → LeavesText old new rest whole
leaves_less old out new more left rest whole l e a = record {
  front = l.front ++ more;
  parts = l.parts ∙ ap (λ x. l.front ++ x) e ∙ sym (append_assoc l.front more rest);
  is = both old out new l.front more l.is a;
}

pub leaves_same : (old out left rest whole : List ℕ) → LeavesText old out left whole → left ≡ rest → LeavesText old out rest whole
leaves_same old out left rest whole l e = record { front = l.front; parts = l.parts ∙ ap (λ x. l.front ++ x) e; is = l.is }

pub leaves_none : (old out left whole : List ℕ) → LeavesText old out left whole → left ≡ [] → Appends old out whole
leaves_none old out left whole l e = subst (Appends old out) (sym (l.parts ∙ ap (λ x. l.front ++ x) e ∙ append-nil l.front)) l.is

-- so far it has grown, and then it grew by what the last call left
pub leaves_grown : (old out left whole new : List ℕ) → LeavesText old out left whole → Grows out new → Grows old new
leaves_grown old out left whole new l g = (l.front ++ g.0, both old out new l.front g.0 l.is g.1)

-- what comes next ends within the whole
pub leaves_room : (old out left more rest whole : List ℕ) → LeavesText old out left whole → left ≡ more ++ rest
    → length out + length (encode_utf8_all more) ≤ length old + length (encode_utf8_all whole)
leaves_room old out left more rest whole l e =
    let before = encode_utf8_all l.front in
    let now = encode_utf8_all more in
    let behind = encode_utf8_all rest in
    let parts : encode_utf8_all whole ≡ before ++ (now ++ behind) =
    ap encode_utf8_all (l.parts ∙ ap (λ x. l.front ++ x) e) ∙ encodes-append l.front (more ++ rest) ∙ ap (λ x. before ++ x) (encodes-append more rest) in
    omega (arith, ap length parts, length-append before (now ++ behind), length-append now behind, ap length l.is, length-append old before)

-- what it was before begins a character, or is all
pub seam : (old new : List ℕ) (n : ℕ) → n ≡ length old → IsUtf8 old → IsUtf8 new → Grows old new → IsCharBoundary new n
seam old new n at u v g =
    let size : length new ≡ length old + length (encode_utf8_all g.0) = ap length g.1 ∙ length-append old (encode_utf8_all g.0) in
    let within : length old ≤ length new = omega (arith, size) in
    let front : take (length old) new ≡ old = ap (take (length old)) g.1 ∙ take_at old (encode_utf8_all g.0) (length old) refl in
    subst (IsCharBoundary new) (sym at) (IsCharBoundary-from_take new (length old) v within (subst IsUtf8 (sym front) u))

-- ---- characters of a run

-- what stands within of a run that is shown
abbrev pub left_within : Bool → ℕ → ℕ → ℕ → List ℕ → List ℕ
left_within shown start end column text = if shown then standing_within start end column text else []

abbrev Stands : Bool → ℕ → ℕ → ℕ → ℕ → Bool → Type 0
Stands shown start end column w answer = (shown && nat_le start column && nat_le (column + w) end) ≡ answer

passed_core : (shown : Bool) (start end column c : ℕ) (cs : List ℕ) → Stands shown start end column (width_of c) false
    → left_within shown start end column (c ∷ cs) ≡ left_within shown start end (column + width_of c) cs
passed_core true start end column c cs e = rw e refl
passed_core false start end column c cs e = refl

pushed_core : (shown : Bool) (start end column c : ℕ) (cs : List ℕ) → Stands shown start end column (width_of c) true
    → left_within shown start end column (c ∷ cs) ≡ (c ∷ []) ++ left_within shown start end (column + width_of c) cs
pushed_core true start end column c cs e = rw e refl
pushed_core false start end column c cs e = cc

module _ (shown : Bool) (start end column c w : ℕ) (before cs : List ℕ) (at : before ≡ c ∷ cs) (wide : w ≡ width_of c) where
  pub passed : Stands shown start end column w false → left_within shown start end column before ≡ left_within shown start end (column + w) cs
  passed e =
      ap (left_within shown start end column) at ∙ passed_core shown start end column c cs (subst (λ k. Stands shown start end column k false) wide e)
      ∙ ap (λ k. left_within shown start end (column + k) cs) (sym wide)

  pub pushed : Stands shown start end column w true → left_within shown start end column before ≡ (c ∷ []) ++ left_within shown start end (column + w) cs
  pushed e =
      ap (left_within shown start end column) at ∙ pushed_core shown start end column c cs (subst (λ k. Stands shown start end column k true) wide e)
      ∙ ap (λ k. (c ∷ []) ++ left_within shown start end (column + k) cs) (sym wide)

-- nothing is left
pub no_more : (shown : Bool) (start end column : ℕ) (left : List ℕ) → left ≡ [] → left_within shown start end column left ≡ []
no_more true start end column left e = ap (standing_within start end column) e
no_more false start end column left e = refl

-- ---- the pieces of a text

-- the columns of the runs
abbrev pub run_columns : List TextPiece → ℕ
run_columns ps = sum_by width_of (flat_map run_text ps)

pub columns_behind_run : (left ps : List TextPiece) (text : List ℕ) → left ≡ Run text ∷ ps → run_columns left ≡ sum_by width_of text + run_columns ps
columns_behind_run left ps text e = ap run_columns e ∙ sum_by-append width_of text (flat_map run_text ps)

pub all_columns : (text : List ℕ) → run_columns (pieces_of_text text) ≡ columns_of text
all_columns text = ap (sum_by width_of) (runs_are_visible text)

pub shown_colour : (p : Piece) (left ps : List TextPiece) → left ≡ text_piece p ∷ ps → p.colour ≡ true → left ≡ Colour (chars p.text.now) ∷ ps
shown_colour p left ps e is = e ∙ ap (λ b. (if b then Colour (chars p.text.now) else Run (chars p.text.now)) ∷ ps) is

pub shown_run : (p : Piece) (left ps : List TextPiece) → left ≡ text_piece p ∷ ps → p.colour ≡ false → left ≡ Run (chars p.text.now) ∷ ps
shown_run p left ps e is = e ∙ ap (λ b. (if b then Colour (chars p.text.now) else Run (chars p.text.now)) ∷ ps) is
