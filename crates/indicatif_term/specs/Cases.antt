-- Worked cases of the three lists.
use Rattle.std.specs.Prelude.{◌≡◌, ℕ, true, false, List, [], ◌∷◌, ◌++◌, drop, flat_map, codes}
use Rattle.indicatif_text.specs.Columns.{Cell, rows_of}
use Rattle.indicatif_term.specs.Lists.{BarLines, opening_lists, all_rows, drawn, logged, cleared, kept_of, fate}
use Rattle.indicatif_term.specs.declared.engine.counts.Keep.TheVariants.{Absent, Passed, Behind}
use Rattle.indicatif_term.specs.Calls.{line_bytes, clear_bytes}
use Rattle.indicatif_term.specs.Terminal.{Terminal, after, blank_terminal}
use Rattle.indicatif_term.specs.Pictures.{contents_text, picture_text}
use Rattle.indicatif_term.specs.Shows.{looks_of}

-- a bar of one line
abbrev pub bar : ℕ → List ℕ → BarLines
bar number line = record { bar = number; lines = line ∷ [] }

-- the rows of lines
abbrev pub drawn_rows : ℕ → List (List ℕ) → List (List Cell)
drawn_rows w lines = flat_map (rows_of w) lines

-- 6 columns and 4 rows: a line of 8 columns takes two rows, and one of 1 column takes one
abbrev pub LongLine : Type 0
LongLine = let first = drawn 6 4 false 0 (bar 0 (codes "aaaaaaaa") ∷ bar 1 (codes "b") ∷ []) opening_lists in
    (all_rows 6 first ≡ drawn_rows 6 (codes "aaaaaa" ∷ codes "aa" ∷ codes "b" ∷ []))
    × (all_rows 6 (drawn 6 4 false 0 (bar 0 (codes "a") ∷ bar 1 (codes "b") ∷ []) first) ≡ drawn_rows 6 (codes "a" ∷ codes "b" ∷ []))

-- 2 rows: of three lines the first two are shown
abbrev pub ThreeOnTwo : Type 0
ThreeOnTwo = all_rows 5 (drawn 5 2 false 0 (bar 0 (codes "a") ∷ bar 1 (codes "b") ∷ bar 2 (codes "c") ∷ []) opening_lists) ≡ drawn_rows 5 (codes "a" ∷ codes "b" ∷ [])

-- a text that is logged stays above the bar
abbrev pub LogAbove : Type 0
LogAbove = let shown = drawn 5 3 false 0 (bar 0 (codes "x") ∷ []) opening_lists in
    let l = logged 5 3 false (codes "l" ∷ []) (bar 0 (codes "x") ∷ []) shown in
    (l.above ≡ drawn_rows 5 (codes "l" ∷ [])) × (all_rows 5 l ≡ drawn_rows 5 (codes "l" ∷ codes "x" ∷ []))

-- bars at the bottom: a removed bar leaves a blank row above; a dropped bar leaves with it, and a log erases both
abbrev pub AtTheBottom : Type 0
AtTheBottom = let three = drawn 9 6 true 0 (bar 1 (codes "m1") ∷ bar 2 (codes "m2") ∷ bar 3 (codes "m3") ∷ []) opening_lists in
    let two = drawn 9 6 true 0 (bar 1 (codes "m1") ∷ bar 3 (codes "m3") ∷ []) three in
    let kept = kept_of 9 1 two in
    (all_rows 9 two ≡ drawn_rows 9 ([] ∷ codes "m1" ∷ codes "m3" ∷ []))
    × (kept.kept ≡ drawn_rows 9 ([] ∷ codes "m1" ∷ []))
    × (all_rows 9 (logged 9 6 true (codes "L" ∷ []) (bar 3 (codes "m3") ∷ []) kept) ≡ drawn_rows 9 (codes "L" ∷ [] ∷ codes "m3" ∷ []))

-- 2 rows: a kept row that has scrolled away is above, and a log doesn't change it
abbrev pub KeptScrollsAway : Type 0
KeptScrollsAway = let two = drawn 9 2 false 0 (bar 1 (codes "k") ∷ bar 2 (codes "x") ∷ []) opening_lists in
    let kept = kept_of 9 1 two in
    let next = drawn 9 2 false 0 (bar 2 (codes "x") ∷ bar 3 (codes "y") ∷ []) kept in
    (next.above ≡ drawn_rows 9 (codes "k" ∷ [])) × (next.kept ≡ [])
    × (all_rows 9 (logged 9 2 false (codes "l" ∷ []) (bar 2 (codes "x") ∷ bar 3 (codes "y") ∷ []) next) ≡ drawn_rows 9 (codes "k" ∷ codes "l" ∷ codes "x" ∷ codes "y" ∷ []))

-- after a clear only the rows above are left
abbrev pub ClearLeavesAbove : Type 0
ClearLeavesAbove = let shown = logged 5 3 false (codes "l" ∷ []) (bar 0 (codes "x") ∷ []) opening_lists in
    all_rows 5 (cleared shown) ≡ drawn_rows 5 (codes "l" ∷ [])

-- of two shown bars the first one's rows are first, the second one's later, and a third bar has none; if the first is dropped its row isn't live, and the second one's are first
abbrev pub FatesOfBars : Type 0
FatesOfBars = let two = drawn 9 4 false 0 (bar 1 (codes "a") ∷ bar 2 (codes "b") ∷ []) opening_lists in
    (fate 1 two ≡ Passed) × (fate 2 two ≡ Behind) × (fate 3 two ≡ Absent) × (fate 1 opening_lists ≡ Absent)
    × (kept_of 9 2 two ≡ two) × (kept_of 9 3 two ≡ two)
    × (fate 1 (kept_of 9 1 two) ≡ Absent) × (fate 2 (kept_of 9 1 two) ≡ Passed)

-- a terminal of 3 rows with the cursor on the last one, below two older rows
abbrev pub below_two : Terminal
below_two = after (blank_terminal 3 5) (codes "u1\r\nu2\r\n")

-- a bar is drawn there, and a text is logged above it: the first row scrolls away, and below the two stand the rows of the lists
abbrev pub LogScrolls : Type 0
LogScrolls = let x = bar 0 (codes "x") ∷ [] in
    let first = drawn 5 3 false 0 x opening_lists in
    let second = logged 5 3 false (codes "l" ∷ []) x first in
    let shown = after below_two (codes "x") in
    let next = after shown (clear_bytes ++ line_bytes (codes "l") ++ codes "x") in
    (second.above ≡ drawn_rows 5 (codes "l" ∷ [])) × (all_rows 5 second ≡ drawn_rows 5 (codes "l" ∷ codes "x" ∷ []))
    × (picture_text shown.screen ≡ codes "u1" ∷ codes "u2" ∷ codes "x" ∷ [])
    × (looks_of (drop 2 shown.screen.rows) ≡ looks_of (all_rows 5 first))
    × (picture_text next.screen ≡ codes "u1" ∷ codes "u2" ∷ codes "l" ∷ codes "x" ∷ [])
    × (looks_of (drop 2 next.screen.rows) ≡ looks_of (all_rows 5 second))
    × (contents_text next.screen ≡ codes "u2\nl\nx")
