-- The text of a placeholder at a width, and bars. Texts are lists of bytes in UTF-8.
use Rattle.std.specs.Prelude.{ℕ, ◌-◌, ◌*◌, ◌/◌, ◌%◌, Bool, ◌&&◌, nat_lt, List, [], ◌∷◌, ◌++◌, length, replicate, if◌then◌else◌, encode_utf8_all}
use Rattle.std.specs.Str.{chars}
use Rattle.std.specs.List.{slice_index_or, concat}
use Rattle.indicatif_text.specs.Columns.{columns_of}
use Rattle.indicatif_text.specs.Range.{ansi_range}
use Rattle.indicatif_text.specs.StyleWords.{styled}
use Rattle.indicatif_text.specs.declared.template.Alignment.{Alignment}
use Rattle.indicatif_text.specs.declared.template.Alignment.TheVariants.{Left, Center, Right}
use Rattle.indicatif_bar.specs.declared.measures.Fraction.{Fraction}

-- ---- padding

-- how many columns a text takes
abbrev pub text_columns : List ℕ → ℕ
text_columns text = columns_of (chars text)

-- the given number of spaces
abbrev pub spaces : ℕ → List ℕ
spaces n = replicate n 0x20

-- the part of a text in the columns from `start` up to `end`
abbrev pub text_range : List ℕ → ℕ → ℕ → List ℕ
text_range text start end = encode_utf8_all (ansi_range (chars text) start end)

-- the part of a text of `columns` columns that fits in a smaller width
abbrev pub truncated : List ℕ → ℕ → Alignment → ℕ → List ℕ
truncated text columns Left width = text_range text 0 width
truncated text columns Right width = text_range text (columns - width) columns
truncated text columns Center width = let excess = columns - width in text_range text (excess / 2) (columns - (excess - excess / 2))

-- a text with the given number of blanks around it
abbrev pub surrounded : List ℕ → Alignment → ℕ → List ℕ
surrounded text Left blanks = text ++ spaces blanks
surrounded text Right blanks = spaces blanks ++ text
surrounded text Center blanks = spaces (blanks / 2) ++ text ++ spaces (blanks - blanks / 2)

-- a text at a width: a longer one as it is or truncated, a shorter one with blanks
unfoldable pub padded : List ℕ → ℕ → Alignment → Bool → List ℕ
padded text width align truncate =
    let columns = text_columns text in
    if nat_lt width columns then (if truncate then truncated text columns align width else text) else surrounded text align (width - columns)

-- ---- the bar

-- n times a text
abbrev pub times : ℕ → List ℕ → List ℕ
times n text = concat (replicate n text)

-- the k-th cluster
abbrev pub cluster : List (List ℕ) → ℕ → List ℕ
cluster clusters k = slice_index_or clusters k []

-- the bar of `width` columns: whole clusters for the fraction, a shade for what is left of it, and the rest in the alternative style
unfoldable pub bar_text : List (List ℕ) → Bool → List ℕ → Fraction → ℕ → List ℕ
bar_text clusters colours alternative f width =
    let cells = width / text_columns (cluster clusters 0) in
    let fill = f.num * cells in
    let filled = fill / f.den in
    let shades = length clusters - 2 in
    let current = if nat_lt 0 fill && nat_lt filled cells && nat_lt 0 shades then cluster clusters (shades - fill % f.den * shades / f.den) ∷ [] else [] in
    times filled (cluster clusters 0) ++ concat current ++ styled colours alternative (times (cells - filled - length current) (cluster clusters (length clusters - 1)))
