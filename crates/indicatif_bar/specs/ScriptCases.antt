-- Worked cases of scripts: a lone bar whose terminal changes its size, and rows that last. All happens at the moment 0.
use Rattle.std.specs.Prelude.{◌≡◌, ℕ, List, [], ◌∷◌, ◌++◌, None, codes, Result, Ok}
use Rattle.indicatif_text.specs.declared.refusal.Refusal.{Refusal}
use Rattle.indicatif_text.specs.declared.refusal.Drawn.{Drawn}
use Rattle.indicatif_text.specs.declared.refusal.Drawn.TheVariants.{Yes, Hidden}
use Rattle.indicatif_text.specs.Columns.{blank_row}
use Rattle.indicatif_term.specs.Screen.{Screen}
use Rattle.indicatif_term.specs.Lists.{opening_lists, all_rows}
use Rattle.indicatif_term.specs.Events.{rows_that_stand, rows_then}
use Rattle.indicatif_bar.specs.Commands.{BarRecord, Command, Tick, SetMessage}
use Rattle.indicatif_bar.specs.LoneBars.{lone_bar, lone_sizing}
use Rattle.indicatif_bar.specs.Machines.{Target}
use Rattle.indicatif_bar.specs.Lone.{LoneState, LoneCall, Obey, Log, opening_state}
use Rattle.indicatif_bar.specs.Scripts.{ScriptPart, Called, Size, rows_cut, played}
use Rattle.indicatif_bar.specs.Cases.{terminal_of_size, nowhere, untracked, bar_saying, rows_of_lines}

-- a call with its answer
abbrev pub answered : LoneCall (Command (Unit {0})) → Result Drawn Refusal → ScriptPart (LoneCall (Command (Unit {0}))) (Result Drawn Refusal)
answered call answer = Called ((call, 0) ∷ []) (answer ∷ [])

-- a call without an answer yet
abbrev pub asked : LoneCall (Command (Unit {0})) → ScriptPart (LoneCall (Command (Unit {0}))) (Result Drawn Refusal)
asked call = Called ((call, 0) ∷ []) []

-- the answers of a script of a bar with this message, and its state after it
abbrev pub scripted : Target → List ℕ → List (ScriptPart (LoneCall (Command (Unit {0}))) (Result Drawn Refusal)) →
    List (ScriptPart (LoneCall (Command (Unit {0}))) (Result Drawn Refusal)) × LoneState (BarRecord (Unit {0}))
scripted target message parts = played (lone_bar untracked) (lone_sizing untracked) target parts (opening_state (bar_saying message) None)

-- 4 rows, 10 columns: 13 columns on two rows become three rows on 5 columns, and the next draw has three too; on 20 columns they stay three, and the next draw erases them all
abbrev pub Dragged : Type 0
Dragged =
    let on = scripted (terminal_of_size 4 10) (codes "progress bars") in
    let three = codes "progr" ∷ codes "ess b" ∷ codes "ars" ∷ [] in
    let narrow = on (asked (Obey Tick) ∷ Size 5 4 ∷ []) in
    let drawn = on (asked (Obey Tick) ∷ Size 5 4 ∷ asked (Obey Tick) ∷ []) in
    let wide = on (asked (Obey Tick) ∷ Size 5 4 ∷ asked (Obey Tick) ∷ Size 20 4 ∷ []) in
    let all = on (asked (Obey Tick) ∷ Size 5 4 ∷ asked (Obey Tick) ∷ Size 20 4 ∷ asked (Obey Tick) ∷ []) in
    (all_rows 5 narrow.1.lists ≡ rows_of_lines 5 three)
    × (all_rows 5 drawn.1.lists ≡ rows_of_lines 5 three)
    × (all_rows 20 wide.1.lists ≡ rows_of_lines 20 three)
    × (all_rows 20 all.1.lists ≡ rows_of_lines 20 (codes "progress bars" ∷ []))
    × (all.0 ≡ answered (Obey Tick) (Ok Yes) ∷ Size 5 4 ∷ answered (Obey Tick) (Ok Yes) ∷ Size 20 4 ∷ answered (Obey Tick) (Ok Yes) ∷ [])

-- 2 rows: the first of the three scrolls away, and stays; a line of three rows isn't shown on two, one of one row is
abbrev pub ScrolledAway : Type 0
ScrolledAway =
    let on = scripted (terminal_of_size 2 10) (codes "progress bars") in
    let narrow = on (asked (Obey Tick) ∷ Size 5 2 ∷ []) in
    let drawn = on (asked (Obey Tick) ∷ Size 5 2 ∷ asked (Obey Tick) ∷ []) in
    let short = on (asked (Obey Tick) ∷ Size 5 2 ∷ asked (Obey Tick) ∷ asked (Obey (SetMessage (codes "ok"))) ∷ []) in
    (narrow.1.lists.above ≡ rows_of_lines 5 (codes "progr" ∷ []))
    × (all_rows 5 narrow.1.lists ≡ rows_of_lines 5 (codes "progr" ∷ codes "ess b" ∷ codes "ars" ∷ []))
    × (all_rows 5 drawn.1.lists ≡ rows_of_lines 5 (codes "progr" ∷ []))
    × (all_rows 5 short.1.lists ≡ rows_of_lines 5 (codes "progr" ∷ codes "ok" ∷ []))

-- rows above are wrapped, and stay so on more columns; only sizes wrap a row so
abbrev pub LogsCut : Type 0
LogsCut =
    let on = scripted (terminal_of_size 4 10) (codes "x") in
    let wide = on (asked (Log (codes "abcdef")) ∷ Size 4 4 ∷ Size 9 4 ∷ asked (Obey Tick) ∷ []) in
    (wide.1.lists.above ≡ rows_of_lines 9 (codes "abcd" ∷ codes "ef" ∷ [])) × (all_rows 9 wide.1.lists ≡ rows_of_lines 9 (codes "abcd" ∷ codes "ef" ∷ codes "x" ∷ []))
    × (rows_cut (Size 4 4 ∷ answered (Obey Tick) (Ok Yes) ∷ Size 4 4 ∷ Size 9 4 ∷ []) 10 4 (rows_of_lines 10 (codes "abcdef" ∷ [])) ≡ rows_of_lines 9 (codes "abcd" ∷ codes "ef" ∷ []))

-- a hidden target has no size
abbrev pub HiddenSize : Type 0
HiddenSize =
    let both = scripted nowhere (codes "x") (asked (Obey Tick) ∷ Size 4 4 ∷ asked (Obey Tick) ∷ []) in
    (both.0 ≡ answered (Obey Tick) (Ok Hidden) ∷ Size 4 4 ∷ answered (Obey Tick) (Ok Hidden) ∷ []) × (both.1.lists ≡ opening_lists)

-- ---- rows that last

-- 3 rows of 4 columns, `abcd` and `ef`, the cursor there
abbrev pub two_rows_at : ℕ → ℕ → Screen
two_rows_at row column = record { columns = 4; height = 3; rows = rows_of_lines 4 (codes "abcd" ∷ codes "ef" ∷ []) ++ blank_row 4 ∷ []; row = row; column = column }

-- of the first two rows both stand above the front of the third row, and above a cursor that waits at the end of the second; above a cursor within the second row that row does not. What stands is
-- wrapped; the same size changes nothing
abbrev pub HowManyStand : Type 0
HowManyStand =
    (rows_that_stand 2 (two_rows_at 2 0) ≡ 2)
    × (rows_that_stand 2 (two_rows_at 1 4) ≡ 2)
    × (rows_that_stand 2 (two_rows_at 1 2) ≡ 1)
    × (rows_then 2 3 2 (two_rows_at 1 4) ≡ rows_of_lines 2 (codes "ab" ∷ codes "cd" ∷ codes "ef" ∷ []))
    × (rows_then 2 3 2 (two_rows_at 1 2) ≡ rows_of_lines 2 (codes "ab" ∷ codes "cd" ∷ []))
    × (rows_then 4 3 2 (two_rows_at 1 2) ≡ rows_of_lines 4 (codes "abcd" ∷ codes "ef" ∷ []))
