-- What the calls of a terminal do to a screen with nothing below the cursor's row.
use Rattle.std.proofs.Common.{◌≡◌, ℕ, zero, suc, ◌+◌, ◌-◌, true, false, List, [], ◌∷◌, ◌++◌, length, get_or, drop, replicate, reverse, refl, sym, ◌∙◌, ap, append_assoc, arith, length-append, add-one, sub-one}
use Rattle.std.proofs.lemmas.List.{get_or-append_right, get_or_at, set_at, take_at, drop_at, drop-drop, drop-replicate, reverse-append, reverse-reverse, replicate_more}
use Rattle.std.proofs.lemmas.Bool.{le-ltb, lt-ltb}
use Rattle.std.specs.Prelude.{nat_lt}
use Rattle.indicatif_text.specs.Columns.{Cell, glyph_width, Blank, Written, Continued, Glyph, glyph_cells, blank_row}
use Rattle.indicatif_term.specs.Screen.{Screen, emptied_front, written_at, with_joiner, joined_back, joined_at, with_row, line_feed, cursor_row}
use Rattle.indicatif_term.proofs.CursorRowLemmas.{screen_at}

pub blank_read : (k i : ℕ) → get_or (replicate k Blank) i Blank ≡ Blank
blank_read zero i = refl
blank_read (suc k) zero = refl
blank_read (suc k) (suc i) = blank_read k i

pub front_of_blanks : (k : ℕ) → emptied_front (replicate k Blank) ≡ replicate k Blank
front_of_blanks zero = refl
front_of_blanks (suc k) = refl

pub written_behind : (cells : List Cell) (k : ℕ) (new : List Cell) → written_at (length cells) new (cells ++ replicate k Blank) ≡ (cells ++ new) ++ replicate (k - length new) Blank
written_behind cells k new =
    let here : get_or (cells ++ replicate k Blank) (length cells) Blank ≡ Blank = get_or-append_right cells (replicate k Blank) (length cells) (length cells) Blank refl (omega arith)
    ∙ blank_read k (length cells - length cells) in
    let rest : drop (length cells + length new) (cells ++ replicate k Blank) ≡ replicate (k - length new) Blank = sym (drop-drop (length new) (length cells) (cells ++ replicate k Blank))
    ∙ ap (drop (length new)) (drop_at cells (replicate k Blank) (length cells) refl) ∙ drop-replicate (length new) k Blank in
    rw (here, rest, take_at cells (replicate k Blank) (length cells) refl, front_of_blanks (k - length new)) refl

joined_continued : (c : ℕ) (k : ℕ) (g : Glyph) (cells : List Cell) → joined_back c (replicate k Continued ++ Written g ∷ cells) ≡ replicate k Continued ++ Written (with_joiner c g) ∷ cells
joined_continued c zero g cells = refl
joined_continued c (suc k) g cells = ap (λ xs. Continued ∷ xs) (joined_continued c k g cells)

reverse_replicate : {A : Type 0} (k : ℕ) (x : A) → reverse (replicate k x) ≡ replicate k x
reverse_replicate zero x = refl
reverse_replicate (suc k) x =
    reverse-append (x ∷ []) (replicate k x) ∙ ap (λ xs. xs ++ x ∷ []) (reverse_replicate k x) ∙ replicate_more k x ∙ rw add-one refl

backwards : (cells : List Cell) (g : Glyph) (k : ℕ) → reverse (cells ++ Written g ∷ replicate k Continued) ≡ replicate k Continued ++ Written g ∷ reverse cells
backwards cells g k =
    reverse-append cells (Written g ∷ replicate k Continued)
    ∙ ap (λ xs. xs ++ reverse cells) (reverse-append (Written g ∷ []) (replicate k Continued) ∙ ap (λ xs. xs ++ Written g ∷ []) (reverse_replicate k Continued))
    ∙ append_assoc (replicate k Continued) (Written g ∷ []) (reverse cells)

pub joined : (c : ℕ) (cells : List Cell) (g : Glyph) (rest : List Cell) →
    joined_at (length (cells ++ glyph_cells g)) c ((cells ++ glyph_cells g) ++ rest) ≡ (cells ++ glyph_cells (with_joiner c g)) ++ rest
joined c cells g rest =
    let all = cells ++ glyph_cells g in
    let k = glyph_width g - 1 in
    let front : reverse (joined_back c (reverse all)) ≡ cells ++ glyph_cells (with_joiner c g) =
    ap (λ xs. reverse (joined_back c xs)) (backwards cells g k) ∙ ap reverse (joined_continued c k g (reverse cells))
    ∙ ap reverse (sym (backwards cells (with_joiner c g) k)) ∙ reverse-reverse (cells ++ glyph_cells (with_joiner c g)) in
    rw (take_at all rest (length all) refl, drop_at all rest (length all) refl, front) refl

-- ---- screens

abbrev pub made : ℕ → ℕ → List (List Cell) → ℕ → ℕ → Screen
made w h rows row column = record { columns = w; height = h; rows = rows; row = row; column = column }

pub same_screen : (w h : ℕ) (rows rows' : List (List Cell)) (row row' column column' : ℕ) → rows ≡ rows' → row ≡ row' → column ≡ column' → made w h rows row column ≡ made w h rows' row' column'
same_screen w h rows rows' row row' column column' h₁ h₂ h₃ = cc

pub cursor_row_at : (w h : ℕ) (above : List (List Cell)) (here : List Cell) (n column : ℕ) → cursor_row (screen_at w h above here n column) ≡ here
cursor_row_at w h above here n column = get_or_at above here (replicate n (blank_row w)) [] (length above) refl

pub with_row_at : (w h : ℕ) (above : List (List Cell)) (here : List Cell) (n column : ℕ) (r : List Cell) → with_row (screen_at w h above here n column) r ≡ screen_at w h above r n column
with_row_at w h above here n column r = ap (λ rows. record (screen_at w h above here n column) { rows = rows }) (set_at above here (replicate n (blank_row w)) r (length above) refl)

pub line_feed_at : (w h : ℕ) (above : List (List Cell)) (here : List Cell) (n column : ℕ) →
    line_feed (screen_at w h above here n column) ≡ screen_at w h (above ++ here ∷ []) (blank_row w) (n - 1) column
line_feed_at w h above here zero column =
    let last : nat_lt (length above + 1) (length (above ++ here ∷ [])) ≡ false = le-ltb (length above + 1) (length (above ++ here ∷ [])) (omega (arith, length-append above (here ∷ []))) in
    same_screen _ _ _ _ _ _ _ _ (rw last refl) (omega (arith, length-append above (here ∷ []))) refl
line_feed_at w h above here (suc n) column =
    let below = replicate (suc n) (blank_row w) in
    let more : nat_lt (length above + 1) (length (above ++ here ∷ below)) ≡ true =
    lt-ltb (length above + 1) (length (above ++ here ∷ below)) (omega (arith, length-append above (here ∷ below))) in
    same_screen _ _ _ _ _ _ _ _ (rw (more, sub-one) (sym (append_assoc above (here ∷ []) below))) (omega (arith, length-append above (here ∷ []))) refl
