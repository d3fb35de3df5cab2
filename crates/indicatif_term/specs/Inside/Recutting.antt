-- Lines that are wrapped again: each of their rows becomes lines of one row.
use Rattle.std.specs.Prelude.{false, ◌≡◌, ℕ, ◌+◌, ◌-◌, Bool, ◌&&◌, ◌==◌, nat_le, List, [], ◌∷◌, ◌++◌, map, filter, flat_map, length, suc, ◌<◌, ◌≤◌, chars, string_bytes, sum, min, take, drop, replicate, if◌then◌else◌}
use Rattle.std.specs.Int.{is_in_range}
use Rattle.std.specs.List.{list_all}
use Rattle.indicatif_text.specs.Columns.{Cell, Glyph, width_of, glyph_width, columns_in, glyphs_of, pieces_of, visible}
use Rattle.indicatif_term.specs.Pictures.{is_empty}
use Rattle.indicatif_term.specs.Lists.{Lists, all_rows, live_height}
use Rattle.indicatif_term.specs.Resizes.{has_place, recut, recut_all, recut_lists}
use Rattle.indicatif_term.specs.Standing.{standing_rows, AreLines}
use Rattle.indicatif_term.specs.Remembered.{AreRemembered, AreOwned, live_lines}
use Rattle.indicatif_term.specs.Counts.{line_counts}
use Rattle.indicatif_term.specs.declared.engine.remembered.Remembered.{Remembered}
use Rattle.indicatif_term.specs.declared.engine.counts.Counts.{Counts}
use Rattle.indicatif_term.specs.declared.engine.remembered.StandingLine.{StandingLine}
use Rattle.indicatif_term.specs.declared.engine.recutting.CutLines.{CutLines}

-- ---- the text of a row

-- the characters of a glyph
abbrev pub glyph_text : Glyph → List ℕ
glyph_text g = g.base ∷ g.joiners

-- a character that begins no colour sequence: an escape character is followed by an empty one
abbrev pub guarded_char : ℕ → List ℕ
guarded_char c = if c == 0x1B then 0x1B ∷ 0x1B ∷ 0x5B ∷ 0x6D ∷ [] else c ∷ []

abbrev pub guarded : List ℕ → List ℕ
guarded cs = flat_map guarded_char cs

-- a text whose visible glyphs are these
abbrev pub glyphs_text : List Glyph → List ℕ
glyphs_text gs = guarded (flat_map glyph_text gs)

-- ---- a wrapped row

-- a space without a joiner
abbrev pub is_space : Glyph → Bool
is_space g = (g.base == 0x20) && is_empty g.joiners

-- the glyphs up to the last one that is no space
abbrev pub without_spaces : List Glyph → List Glyph
without_spaces [] = []
without_spaces (g ∷ gs) = if list_all is_space (g ∷ gs) then [] else g ∷ without_spaces gs

-- how many glyphs from the front fit into a row of w columns of which c are taken; those that fit into no row come along
abbrev pub fitting_count : ℕ → ℕ → List Glyph → ℕ
fitting_count w c [] = 0
fitting_count w c (g ∷ gs) =
    if has_place w g then (if nat_le (c + glyph_width g) w then suc (fitting_count w (c + glyph_width g) gs) else 0) else suc (fitting_count w c gs)

-- whether a row of w columns has place for a character without its joiners
abbrev pub fits_alone : ℕ → ℕ → Bool
fits_alone w c = is_in_range 1 w (width_of c)

-- whether a character goes into a line of a row: a joiner does where the character before it does
abbrev pub keeps : ℕ → Bool → ℕ → Bool
keeps w before c = if width_of c == 0 then before else fits_alone w c

-- the first n of these characters are those of the glyphs that fit into a row of w columns
pub record IsFitting (w : ℕ) (cs : List ℕ) (n : ℕ) : Type 0 where
  pub within : n ≤ length cs
  pub some : 0 < length cs → 0 < n
  pub front : glyphs_of (take n cs) ≡ take (fitting_count w 0 (glyphs_of cs)) (glyphs_of cs)
  pub rest : glyphs_of (drop n cs) ≡ drop (fitting_count w 0 (glyphs_of cs)) (glyphs_of cs)
  pub more : n < length cs → 0 < length (glyphs_of (drop n cs))

-- the pieces that a row of these glyphs becomes
abbrev pub new_pieces : ℕ → List Glyph → List (List Glyph)
new_pieces w row = pieces_of w (filter (has_place w) (without_spaces row))

-- the pieces that the rows of a line become, row by row
abbrev pub cut_pieces : ℕ → ℕ → List Glyph → List (List (List Glyph))
cut_pieces w w' gs = map (new_pieces w') (pieces_of w gs)

abbrev pub cut_line : ℕ → ℕ → List ℕ → List (List (List Glyph))
cut_line w w' text = cut_pieces w w' (glyphs_of (visible (chars text)))

abbrev pub cut_lines : ℕ → ℕ → List (List ℕ) → List (List (List Glyph))
cut_lines w w' texts = flat_map (cut_line w w') texts

-- their texts
abbrev pub texts_then : ℕ → ℕ → List ℕ → List (List (List ℕ))
texts_then w w' text = map (map glyphs_text) (cut_line w w' text)

-- ---- lines

-- a line by its characters
pub record LineShown : Type 0 where
  pub text : List ℕ
  pub rows : ℕ
  pub last : ℕ
  pub narrow : Bool

abbrev pub shown_line : StandingLine → LineShown
shown_line l = record { text = chars (string_bytes l.text); rows = l.rows; last = l.last; narrow = l.narrow }

abbrev pub shown_lines : List StandingLine → List LineShown
shown_lines ls = map shown_line ls

-- the line of one row that has these glyphs
abbrev pub row_line : List Glyph → LineShown
row_line gs = record { text = glyphs_text gs; rows = 1; last = columns_in gs; narrow = false }

-- lines with those of more rows added, and how many each of these rows became
pub record HasMore (old new : CutLines) (pieces : List (List (List Glyph))) : Type 0 where
  pub lines_are : shown_lines new.lines.items ≡ shown_lines old.lines.items ++ flat_map (map row_line) pieces
  pub heights_are : new.heights.items ≡ old.heights.items ++ map length pieces

-- ---- their bars

abbrev pub line_bars : List StandingLine → List ℕ
line_bars ls = map (λ (l : StandingLine). l.bar) ls

-- some lines of a bar come below others
abbrev pub Gains : ℕ → List StandingLine → List StandingLine → Type 0
Gains bar old new = (n : ℕ) × (line_bars new ≡ line_bars old ++ replicate n bar)

-- the bars of the lines that these become
abbrev pub cut_bars : ℕ → ℕ → List StandingLine → List ℕ
cut_bars w w' ls = flat_map (λ (l : StandingLine). replicate (sum (map length (cut_line w w' (string_bytes l.text)))) l.bar) ls

-- ---- the lines that are remembered

-- how many rows each of these rows becomes
abbrev pub row_heights : ℕ → List (List Cell) → List ℕ
row_heights w rows = map (λ row. length (recut w row)) rows

-- the lines that are remembered of a terminal of w columns, wrapped for w' columns: what the last rows of lists become, and how many rows each of them; and what
-- becomes of the live ones
pub record IsShownCut (w w' : ℕ) (old : Remembered) (cut : CutLines) : Type 0 where
  pub rows : List (List Cell)
  pub known : (l : Lists) → AreRemembered old l → (front : List (List Cell)) × (front ++ rows ≡ all_rows w l)
  pub heights_are : cut.heights.items ≡ row_heights w' rows
  pub lines_are : standing_rows w' cut.lines.items ≡ recut_all w' rows
  pub right : AreLines w' cut.lines.items
  pub single : map (λ (l : StandingLine). l.rows) cut.lines.items ≡ replicate (length cut.lines.items) 1
  pub owned : (l : Lists) → AreRemembered old l → AreOwned (line_counts (live_lines old)) l.live → length l.kept + live_height l.live ≤ length rows →
      (n : ℕ) × AreOwned (line_counts (drop n cut.lines.items)) (recut_lists w' l).live

-- ---- counts

-- one row if the cursor rests below the lists
abbrev pub end_row : Bool → ℕ
end_row below = if below then 1 else 0

-- the counts of rows that were wrapped, after kept and live ones that have scrolled away on a terminal of h rows joined those above
pub record IsSettledWhole (h kept blanks live : ℕ) (below under : Bool) (c : Counts) : Type 0 where
  pub kept_is : c.kept ≡ (kept + ((live + end_row below) - h)) - min ((kept + live + end_row below) - h) (kept + ((live + end_row below) - h))
  pub blanks_are : c.blanks ≡ blanks - ((live + end_row below) - h)
  pub live_is : c.live ≡ live - ((live + end_row below) - h)
  pub reached_is : c.reached ≡ (kept + live + end_row below) - min ((kept + live + end_row below) - h) (kept + ((live + end_row below) - h))
  pub below_is : c.below ≡ below
  pub under_is : c.under ≡ under
