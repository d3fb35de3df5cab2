-- What is done to the cells that are kept of a row is done to the whole row: the others are blank.
use Rattle.std.proofs.Common.{◌≡◌, ℕ, zero, suc, ◌+◌, ◌-◌, ◌<◌, ◌≤◌, false, List, [], ◌∷◌, ◌++◌, length, get_or, take, drop, replicate, reverse, refl, sym, ◌∙◌, ap, arith, append_assoc, length-append}
use Rattle.std.specs.Prelude.{if◌then◌else◌, ◌&&◌, ◌||◌}
use Rattle.std.specs.List.{list_any, list_all}
use Rattle.std.proofs.lemmas.List.{length-replicate, get_or_append_left, get_or-append_right, take-append-le, drop-append-le, take-append-drop, reverse-reverse}
use Rattle.indicatif_text.specs.Columns.{Cell, Blank, Written, Continued, blank_row}
use Rattle.indicatif_term.specs.Screen.{emptied_front, cut_before, written_at, joined_back, joined_at}
use Rattle.indicatif_term.specs.Pictures.{is_blank, is_written, has_written, trimmed}
use Rattle.indicatif_term.specs.Inside.Rows.{whole_row}
use Rattle.indicatif_term.proofs.RowEditLemmas.{reversed_more, trimmed-all}
use Rattle.indicatif_term.proofs.ScreenRowLemmas.{blank_read, front_of_blanks, written_behind}
use Rattle.indicatif_term.proofs.WholeScreenLemmas.{length-written_at, length-joined_at}

pub length-whole_row : (w : ℕ) (cells : List Cell) → length cells ≤ w → length (whole_row w cells) ≡ w
length-whole_row w cells h = omega (arith, length-append cells (replicate (w - length cells) Blank), length-replicate (w - length cells) Blank)

pub none_kept : (w : ℕ) (cells : List Cell) → cells ≡ [] → whole_row w cells ≡ blank_row w
none_kept w cells e = ap (whole_row w) e ∙ ap (λ k. replicate k Blank) (let all : w - 0 ≡ w = omega arith in all)

-- one blank more is kept
pub one_more_kept : (w : ℕ) (cells : List Cell) → length cells < w → whole_row w (cells ++ Blank ∷ []) ≡ whole_row w cells
one_more_kept w cells h =
    let rest = w - length (cells ++ Blank ∷ []) in
    let all : w - length cells ≡ suc rest = omega (arith, length-append cells (Blank ∷ [])) in
    append_assoc cells (Blank ∷ []) (replicate rest Blank) ∙ ap (λ k. cells ++ replicate k Blank) (sym all)

-- ---- writing

front_before : (xs : List Cell) (k : ℕ) → emptied_front (xs ++ replicate k Blank) ≡ emptied_front xs ++ replicate k Blank
front_before [] k = front_of_blanks k
front_before (Continued ∷ xs) k = ap (λ ys. Blank ∷ ys) (front_before xs k)
front_before (Blank ∷ xs) k = refl
front_before (Written g ∷ xs) k = refl

written_before : (n : ℕ) (new cells : List Cell) (k : ℕ) → n < length cells → n + length new ≤ length cells →
    written_at n new (cells ++ replicate k Blank) ≡ written_at n new cells ++ replicate k Blank
written_before n new cells k h fits =
    let pad = replicate k Blank in
    let cut : cut_before n (cells ++ pad) ≡ cut_before n cells = rw (get_or_append_left cells pad Blank n h, take-append-le n cells pad (omega arith)) refl in
    let rest : emptied_front (drop (n + length new) (cells ++ pad)) ≡ emptied_front (drop (n + length new) cells) ++ pad =
    ap emptied_front (drop-append-le (n + length new) cells pad fits) ∙ front_before (drop (n + length new) cells) k in
    ap (λ xs. xs ++ new ++ emptied_front (drop (n + length new) (cells ++ pad))) cut ∙ ap (λ ys. cut_before n cells ++ new ++ ys) rest
    ∙ simp append_assoc

pub whole_written : (w n : ℕ) (new cells : List Cell) → n < length cells → n + length new ≤ length cells →
    whole_row w (written_at n new cells) ≡ written_at n new (whole_row w cells)
whole_written w n new cells h fits =
    ap (λ m. written_at n new cells ++ replicate (w - m) Blank) (length-written_at n new cells fits)
    ∙ sym (written_before n new cells (w - length cells) h fits)

-- cells are put behind those that are kept
pub whole_appended : (w : ℕ) (new cells : List Cell) → whole_row w (cells ++ new) ≡ written_at (length cells) new (whole_row w cells)
whole_appended w new cells =
    let left : w - length (cells ++ new) ≡ (w - length cells) - length new = omega (arith, length-append cells new) in
    ap (λ k. (cells ++ new) ++ replicate k Blank) left ∙ sym (written_behind cells (w - length cells) new)

-- ---- joining a joiner

pub whole_joined : (w n c : ℕ) (cells : List Cell) → n ≤ length cells → whole_row w (joined_at n c cells) ≡ joined_at n c (whole_row w cells)
whole_joined w n c cells h =
    let pad = replicate (w - length cells) Blank in
    ap (λ m. joined_at n c cells ++ replicate (w - m) Blank) (length-joined_at n c cells)
    ∙ append_assoc (reverse (joined_back c (reverse (take n cells)))) (drop n cells) pad
    ∙ sym (rw (take-append-le n cells pad h, drop-append-le n cells pad h) refl)

-- before the column stands a blank
blank_before : (n c : ℕ) (row : List Cell) → n < length row → get_or row n Blank ≡ Blank → joined_at (n + 1) c row ≡ row
blank_before n c row h e =
    let back : reverse (take (n + 1) row) ≡ Blank ∷ reverse (take n row) = reversed_more row n Blank h (sym e) in
    ap (λ xs. reverse (joined_back c xs) ++ drop (n + 1) row) back
    ∙ ap (λ xs. reverse xs ++ drop (n + 1) row) (sym back)
    ∙ ap (λ xs. xs ++ drop (n + 1) row) (reverse-reverse (take (n + 1) row)) ∙ take-append-drop (n + 1) row

pub nothing_joined : (w n c : ℕ) (cells : List Cell) → length cells < n → n ≤ w → joined_at n c (whole_row w cells) ≡ whole_row w cells
nothing_joined w n c cells far within =
    let m = n - 1 in
    let next : n ≡ m + 1 = omega arith in
    let pad = replicate (w - length cells) Blank in
    let here : get_or (cells ++ pad) m Blank ≡ Blank =
    get_or-append_right cells pad (length cells) m Blank refl (omega arith) ∙ blank_read (w - length cells) (m - length cells) in
    ap (λ k. joined_at k c (whole_row w cells)) next
    ∙ blank_before m c (whole_row w cells) (omega (arith, length-whole_row w cells (omega arith))) here

-- ---- what a row shows

no_blank_written : (k : ℕ) → list_any is_written (replicate k Blank) ≡ false
no_blank_written zero = refl
no_blank_written (suc k) = no_blank_written k

pub written_kept : (w : ℕ) (cells : List Cell) → has_written (whole_row w cells) ≡ has_written cells
written_kept w cells = rest cells (w - length cells)
  where
    rest : (cells : List Cell) (k : ℕ) → list_any is_written (cells ++ replicate k Blank) ≡ list_any is_written cells
    rest [] k = no_blank_written k
    rest (c ∷ cs) k = ap (λ b. is_written c || b) (rest cs k)

all_blank : (cells : List Cell) (k : ℕ) → list_all is_blank (cells ++ replicate k Blank) ≡ list_all is_blank cells
all_blank [] zero = refl
all_blank [] (suc k) = all_blank [] k
all_blank (c ∷ cs) k = ap (λ b. is_blank c && b) (all_blank cs k)

trimmed_before : (cells : List Cell) (k : ℕ) → trimmed (cells ++ replicate k Blank) ≡ trimmed cells
trimmed_before [] k = trimmed-all (replicate k Blank) (all_blank [] k)
trimmed_before (c ∷ cs) k =
    rw (all_blank (c ∷ cs) k) (ap (λ ys. if list_all is_blank (c ∷ cs) then [] else c ∷ ys) (trimmed_before cs k))

pub text_kept : (w : ℕ) (cells : List Cell) → trimmed (whole_row w cells) ≡ trimmed cells
text_kept w cells = trimmed_before cells (w - length cells)
