-- Emptying, writing and joining cell by cell gives the row that the definitions of an edit give.
use Rattle.std.proofs.Common.{◌≡◌, ℕ, zero, suc, ◌+◌, ◌<◌, ◌≤◌, Bool, true, false, List, [], ◌∷◌, ◌++◌, length, get_or, set, take, drop, reverse, refl, sym, ◌∙◌, ap, arith, append_assoc, append-nil, add-one, length-append, length-drop}
use Rattle.std.specs.Prelude.{if◌then◌else◌}
use Rattle.std.proofs.lemmas.List.{take_more, set_split, reverse-append, reverse-reverse, length-reverse, drop-drop, take-take, take-append-le, length-take-le, take_all, drop_all, set_at}
use Rattle.std.proofs.Math.Seq.{drop-cons, drop-append_seam, take-append_seam, drop-append-add}
use Rattle.indicatif_text.specs.Columns.{Cell, Blank, Written, Continued}
use Rattle.indicatif_term.specs.Screen.{is_continued, emptied_front, emptied_glyph, cut_before, written_at, joined_back, joined_at}
use Rattle.std.specs.List.{list_all}
use Rattle.std.proofs.lemmas.List.Folds.{list_all_at}
use Rattle.indicatif_term.specs.Pictures.{is_blank, trimmed}
use Rattle.indicatif_term.specs.Inside.Rows.{emptied_back, emptied_on, overwritten, with_joiner_at}

pub continued_by : (x : Cell) → is_continued x ≡ true → x ≡ Continued
continued_by Continued e = refl
continued_by Blank e = cc
continued_by (Written g) e = cc

-- the default that is read is no matter
get_or_default : (row : List Cell) (n : ℕ) (d : Cell) → n < length row → get_or row n d ≡ get_or row n (get_or row n d)
get_or_default [] n d h = absurd (omega arith)
get_or_default (x ∷ xs) zero d h = refl
get_or_default (x ∷ xs) (suc n) d h = get_or_default xs n d (omega arith)

module _ (row : List Cell) (n : ℕ) (x : Cell) (h : n < length row) (e : x ≡ get_or row n x) where
  -- the cell at n is the first one of the reversed cells up to it
  pub reversed_more : reverse (take (n + 1) row) ≡ x ∷ reverse (take n row)
  reversed_more = ap reverse (take_more row n x h ∙ ap (λ y. take n row ++ y ∷ []) (sym e)) ∙ reverse-append (take n row) (x ∷ [])

  pub drop_here : drop n row ≡ x ∷ drop (n + 1) row
  drop_here = drop-cons row n x h ∙ rw (← e, add-one) refl

  turned : (y : Cell) (ys : List Cell) → reverse (y ∷ ys) ++ drop (n + 1) row ≡ reverse ys ++ y ∷ drop (n + 1) row
  turned y ys = ap (λ z. z ++ drop (n + 1) row) (reverse-append (y ∷ []) ys) ∙ append_assoc (reverse ys) (y ∷ []) (drop (n + 1) row)

  set_here : (y : Cell) → set row n y ≡ take n row ++ y ∷ drop (n + 1) row
  set_here y = set_split row n y h ∙ rw add-one refl

  -- ---- emptying backwards

  glyph_of : (y : Cell) (ys : List Cell) → is_continued y ≡ false → emptied_glyph (y ∷ ys) ≡ Blank ∷ ys
  glyph_of Blank ys not = refl
  glyph_of (Written g) ys not = refl
  glyph_of Continued ys not = cc

  pub back_last : is_continued x ≡ false → emptied_back (n + 1) row ≡ set row n Blank
  back_last is =
      let rest = reverse (take n row) in
      ap (λ y. reverse y ++ drop (n + 1) row) (ap emptied_glyph reversed_more ∙ glyph_of x rest is)
      ∙ turned Blank rest ∙ ap (λ y. y ++ Blank ∷ drop (n + 1) row) (reverse-reverse (take n row)) ∙ sym (set_here Blank)

  -- ---- joining a joiner

  pub join_continued : (c : ℕ) → is_continued x ≡ true → joined_at (n + 1) c row ≡ joined_at n c row
  join_continued c is =
      let rest = reverse (take n row) in
      ap (λ y. reverse (joined_back c y) ++ drop (n + 1) row) (reversed_more ∙ ap (λ y. y ∷ rest) (continued_by x is))
      ∙ turned Continued (joined_back c rest)
      ∙ ap (λ y. reverse (joined_back c rest) ++ y) (ap (λ y. y ∷ drop (n + 1) row) (sym (continued_by x is)) ∙ sym drop_here)

  joined_first : (c : ℕ) (y : Cell) (ys : List Cell) → is_continued y ≡ false → joined_back c (y ∷ ys) ≡ with_joiner_at c y ∷ ys
  joined_first c Blank ys not = refl
  joined_first c (Written g) ys not = refl
  joined_first c Continued ys not = cc

  pub join_last : (c : ℕ) → is_continued x ≡ false → joined_at (n + 1) c row ≡ set row n (with_joiner_at c x)
  join_last c is =
      let rest = reverse (take n row) in
      ap (λ y. reverse y ++ drop (n + 1) row) (ap (joined_back c) reversed_more ∙ joined_first c x rest is)
      ∙ turned (with_joiner_at c x) rest ∙ ap (λ y. y ++ with_joiner_at c x ∷ drop (n + 1) row) (reverse-reverse (take n row)) ∙ sym (set_here (with_joiner_at c x))

-- ---- the edits of one character in turn

pub length-emptied_front : (xs : List Cell) → length (emptied_front xs) ≡ length xs
length-emptied_front [] = refl
length-emptied_front (Continued ∷ xs) = ap suc (length-emptied_front xs)
length-emptied_front (Blank ∷ xs) = refl
length-emptied_front (Written g ∷ xs) = refl

length-emptied_glyph : (xs : List Cell) → length (emptied_glyph xs) ≡ length xs
length-emptied_glyph [] = refl
length-emptied_glyph (Continued ∷ xs) = ap suc (length-emptied_glyph xs)
length-emptied_glyph (Blank ∷ xs) = refl
length-emptied_glyph (Written g ∷ xs) = refl

cut_length : (b : Bool) (n : ℕ) (row : List Cell) → n ≤ length row → length (if b then reverse (emptied_glyph (reverse (take n row))) else take n row) ≡ n
cut_length true n row h =
    length-reverse (emptied_glyph (reverse (take n row))) ∙ length-emptied_glyph (reverse (take n row)) ∙ length-reverse (take n row) ∙ length-take-le n row h
cut_length false n row h = length-take-le n row h

pub length-cut_before : (n : ℕ) (row : List Cell) → n ≤ length row → length (cut_before n row) ≡ n
length-cut_before n row h = cut_length (is_continued (get_or row n Blank)) n row h

-- a row cut in two places, and its middle written
pub in_turn : (row a b cells : List Cell) (n : ℕ) → n + length cells ≤ length row → a ≡ cut_before n row ++ drop n row → b ≡ emptied_on (n + length cells) a →
    overwritten n cells b ≡ written_at n cells row
in_turn row a b cells n h e₁ e₂ =
    let w = length cells in
    let cut = cut_before n row in
    let k : length cut ≡ n = length-cut_before n row (omega arith) in
    let fits : n + w ≤ length a = omega (arith, ap length e₁, length-append cut (drop n row), length-drop n row) in
    let back : drop (n + w) a ≡ drop (n + w) row =
    ap (drop (n + w)) e₁ ∙ ap (λ m. drop (m + w) (cut ++ drop n row)) (sym k) ∙ drop-append-add cut (drop n row) w ∙ drop-drop w n row in
    let front : take n a ≡ cut = ap (take n) e₁ ∙ ap (λ m. take m (cut ++ drop n row)) (sym k) ∙ take-append_seam cut (drop n row) in
    let m : length (take (n + w) a) ≡ n + w = length-take-le (n + w) a fits in
    let front' : take n b ≡ cut =
    ap (take n) e₂ ∙ take-append-le n (take (n + w) a) (emptied_front (drop (n + w) a)) (omega arith) ∙ take-take n (n + w) a (omega arith) ∙ front in
    let back' : drop (n + w) b ≡ emptied_front (drop (n + w) row) =
    ap (drop (n + w)) e₂ ∙ ap (λ k. drop k (take (n + w) a ++ emptied_front (drop (n + w) a))) (sym m)
    ∙ drop-append_seam (take (n + w) a) (emptied_front (drop (n + w) a)) ∙ ap emptied_front back in
    rw (front', back') refl

-- ---- one cell after another

pub one_written : (row : List Cell) (n : ℕ) (y : Cell) → n < length row → set row n y ≡ overwritten n (y ∷ []) row
one_written row n y h = set_split row n y h ∙ rw add-one (sym (append_assoc (take n row) (y ∷ []) (drop (suc n) row)))

pub one_more_written : (row now cells : List Cell) (n m : ℕ) (y : Cell) → now ≡ overwritten n cells row → m ≡ n + length cells → m < length row →
    set now m y ≡ overwritten n (cells ++ y ∷ []) row
one_more_written row now cells n m y e at h =
    let front = take n row ++ cells in
    let rest = drop (m + 1) row in
    let z = get_or row m y in
    let l : length front ≡ m = omega (arith, length-append (take n row) cells, length-take-le n row (omega arith)) in
    let here : now ≡ front ++ z ∷ rest = e ∙ ap (λ k. front ++ drop k row) (sym at) ∙ ap (λ r. front ++ r) (drop_here row m z h (get_or_default row m y h)) in
    let next : n + length (cells ++ y ∷ []) ≡ m + 1 = omega (arith, length-append cells (y ∷ [])) in
    ap (λ r. set r m y) here ∙ set_at front z rest y m l
    ∙ sym (append_assoc front (y ∷ []) rest) ∙ ap (λ r. r ++ rest) (append_assoc (take n row) cells (y ∷ []))
    ∙ ap (λ k. take n row ++ (cells ++ y ∷ []) ++ drop k row) (sym next)

-- a part of a list that was lent whole, put back
pub whole_again : (n : ℕ) (xs ys : List Cell) → length xs ≡ n → length ys ≡ n → take n (xs ++ drop (length xs) ys) ≡ xs
whole_again n xs ys e₁ e₂ = rw (drop_all (length xs) ys (omega arith), append-nil xs) (take_all n xs (omega arith))

-- ---- the cells without the blanks at the end

pub trimmed-all : (row : List Cell) → list_all is_blank row ≡ true → trimmed row ≡ []
trimmed-all [] e = refl
trimmed-all (x ∷ xs) e = rw e refl

pub trimmed_last : (row : List Cell) (n : ℕ) (x : Cell) → n < length row → x ≡ get_or row n x → is_blank x ≡ false → list_all is_blank (drop (suc n) row) ≡ true →
    take (suc n) row ≡ trimmed row
trimmed_last [] n x h e shown rest = absurd (omega arith)
trimmed_last (y ∷ ys) zero x h e shown rest =
    let some : list_all is_blank (y ∷ ys) ≡ false = list_all_at is_blank (y ∷ ys) 0 x h (ap is_blank (sym e) ∙ shown) in
    rw some (ap (λ zs. y ∷ zs) (sym (trimmed-all ys rest)))
trimmed_last (y ∷ ys) (suc n) x h e shown rest =
    let some : list_all is_blank (y ∷ ys) ≡ false = list_all_at is_blank (y ∷ ys) (suc n) x h (ap is_blank (sym e) ∙ shown) in
    rw some (ap (λ zs. y ∷ zs) (trimmed_last ys n x (omega arith) e shown rest))

-- one blank more before blanks
pub blank_more : (row : List Cell) (n : ℕ) (x : Cell) → n < length row → x ≡ get_or row n x → is_blank x ≡ true → list_all is_blank (drop (n + 1) row) ≡ true →
    list_all is_blank (drop n row) ≡ true
blank_more row n x h e blank rest = ap (list_all is_blank) (drop_here row n x h e) ∙ rw (blank, rest) refl
