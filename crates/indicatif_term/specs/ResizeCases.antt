-- Worked cases of terminals, and of lists, that get another size.
use Rattle.std.specs.Prelude.{◌≡◌, ℕ, ◌-◌, true, false, List, [], ◌∷◌, codes}
use Rattle.indicatif_term.specs.Screen.{top}
use Rattle.indicatif_term.specs.Terminal.{Terminal, after, blank_terminal}
use Rattle.indicatif_term.specs.Pictures.{picture_text}
use Rattle.indicatif_term.specs.Lists.{Lists, opening_lists, all_rows, drawn, logged, cleared, kept_of}
use Rattle.indicatif_term.specs.Resizes.{resized_terminal, resized_lists}
use Rattle.indicatif_term.specs.Cases.{bar, drawn_rows}

-- a terminal with this many rows and columns, after bytes
abbrev pub fed : ℕ → ℕ → List ℕ → Terminal
fed rows columns bytes = after (blank_terminal rows columns) bytes

-- its rows' texts after it gets this many rows and columns
abbrev pub picture_at : ℕ → ℕ → Terminal → List (List ℕ)
picture_at rows columns t = picture_text (resized_terminal columns rows t).screen

-- its cursor's row in the window, and its column
abbrev pub cursor_at : ℕ → ℕ → Terminal → ℕ × ℕ
cursor_at rows columns t = let s = (resized_terminal columns rows t).screen in (s.row - top s, s.column)

-- a bar of two rows on 4 rows of 10 columns
abbrev pub two_rows : Lists
two_rows = drawn 10 4 false 0 (bar 0 (codes "progress bars") ∷ []) opening_lists

-- at 5 columns its two rows are three, and at 20 they are still three
abbrev pub NotJoined : Type 0
NotJoined = let narrow = resized_lists 10 4 5 4 two_rows in
    (all_rows 5 narrow ≡ drawn_rows 5 (codes "progr" ∷ codes "ess b" ∷ codes "ars" ∷ [])) × (narrow.reach ≡ 3)
    × (all_rows 20 (resized_lists 5 4 20 4 narrow) ≡ drawn_rows 20 (codes "progr" ∷ codes "ess b" ∷ codes "ars" ∷ []))

-- on 2 rows the first of the three has scrolled away: it is one of those above, and a draw doesn't change it
abbrev pub LiveRowsScrollAway : Type 0
LiveRowsScrollAway = let narrow = resized_lists 10 2 5 2 (drawn 10 2 false 0 (bar 0 (codes "progress bars") ∷ []) opening_lists) in
    let next = drawn 5 2 false 0 (bar 0 (codes "ok") ∷ []) narrow in
    (narrow.above ≡ drawn_rows 5 (codes "progr" ∷ [])) × (narrow.live.segments ≡ record { bar = 0; rows = drawn_rows 5 (codes "ess b" ∷ codes "ars" ∷ []) } ∷ [])
    × (all_rows 5 next ≡ drawn_rows 5 (codes "progr" ∷ codes "ok" ∷ []))

-- a logged text is wrapped too, and stays above
abbrev pub LogIsCut : Type 0
LogIsCut = let wide = drawn 10 4 false 0 (bar 0 (codes "abcdef") ∷ []) opening_lists in
    let narrow = resized_lists 10 4 3 4 (logged 10 4 false (codes "hello" ∷ []) (bar 0 (codes "abcdef") ∷ []) wide) in
    (narrow.above ≡ drawn_rows 3 (codes "hel" ∷ codes "lo" ∷ [])) × (all_rows 3 narrow ≡ drawn_rows 3 (codes "hel" ∷ codes "lo" ∷ codes "abc" ∷ codes "def" ∷ []))

-- four rows were reached, and one is left: the rows below it are dropped, so one was reached
abbrev pub RowsBelowDropped : Type 0
RowsBelowDropped = let four = drawn 10 4 false 0 (bar 0 (codes "a") ∷ bar 1 (codes "b") ∷ bar 2 (codes "c") ∷ bar 3 (codes "d") ∷ []) opening_lists in
    let one = drawn 10 4 false 0 (bar 0 (codes "a") ∷ []) four in
    (one.reach ≡ 4) × ((resized_lists 10 4 10 2 one).reach ≡ 1) × (all_rows 10 (resized_lists 10 4 10 2 one) ≡ drawn_rows 10 (codes "a" ∷ []))

-- if the cursor rests below the lists, its row was reached too
abbrev pub ReachedBelow : Type 0
ReachedBelow = let none = cleared two_rows in (none.below ≡ true) × (none.reach ≡ 2) × ((resized_lists 10 4 5 4 none).reach ≡ 1) × ((resized_lists 10 4 5 4 none).below ≡ true)

-- a bar that is gone, below a blank row and above a bar that is shown: at 3 columns on 2 rows the blank row and the first of its two
-- rows have scrolled away
abbrev pub KeptRowsScrollAway : Type 0
KeptRowsScrollAway = let three = drawn 6 4 true 0 (bar 1 (codes "a") ∷ bar 2 (codes "keeper") ∷ bar 3 (codes "x") ∷ []) opening_lists in
    let gone = kept_of 6 2 (drawn 6 4 true 0 (bar 2 (codes "keeper") ∷ bar 3 (codes "x") ∷ []) three) in
    let narrow = resized_lists 6 4 3 2 gone in
    (gone.kept ≡ drawn_rows 6 ([] ∷ codes "keeper" ∷ [])) × (narrow.above ≡ drawn_rows 3 ([] ∷ codes "kee" ∷ []))
    × (narrow.kept ≡ drawn_rows 3 (codes "per" ∷ [])) × (all_rows 3 narrow ≡ drawn_rows 3 ([] ∷ codes "kee" ∷ codes "per" ∷ codes "x" ∷ []))
