-- Laws of texts at a width, and of bars. Texts are lists of bytes in UTF-8.
use Rattle.std.specs.Prelude.{◌≡◌, ℕ, ◌+◌, ◌*◌, ◌/◌, ◌%◌, ◌-◌, ◌<◌, ◌≤◌, Bool, true, false, List, [], ◌++◌, map, length, Option, Some, None, option_to_list, All, IsTrue, IfSome}
use Rattle.std.specs.List.{concat}
use Rattle.std.specs.Str.{IsUtf8, chars}
use Rattle.indicatif_text.specs.Columns.{is_plain}
use Rattle.indicatif_text.specs.StyleWords.{styled}
use Rattle.indicatif_text.specs.declared.template.Alignment.{Alignment}
use Rattle.indicatif_bar.specs.Measures.{fraction_of}
use Rattle.indicatif_bar.specs.declared.measures.Fraction.{Fraction}
use Rattle.indicatif_bar.specs.Layout.{text_columns, padded, cluster, times, bar_text}
use Rattle.indicatif_bar.specs.Builders.{clusters_of, progress_fault, first_clusters}

-- ---- texts at a width

-- a text no wider than the width takes exactly the width
abbrev pub PaddedFills : Type 0
PaddedFills = (text : List ℕ) (width : ℕ) (align : Alignment) (truncate : Bool) → IsUtf8 text → text_columns text ≤ width → text_columns (padded text width align truncate) ≡ width

-- without truncation, a text takes at least the width
abbrev pub NeverNarrower : Type 0
NeverNarrower = (text : List ℕ) (width : ℕ) (align : Alignment) → IsUtf8 text → width ≤ text_columns (padded text width align false)

-- with truncation, it never takes more
abbrev pub NeverWider : Type 0
NeverWider = (text : List ℕ) (width : ℕ) (align : Alignment) → IsUtf8 text → text_columns (padded text width align true) ≤ width

-- ---- bars

-- a text in UTF-8 of characters with a width and colour sequences
abbrev pub IsPlainText : List ℕ → Type 0
IsPlainText text = IsUtf8 text × IsTrue (is_plain (chars text))

-- the clusters of a text, which a style takes
pub record AreTaken (clusters : List (List ℕ)) : Type 0 where
  pub text : List ℕ
  pub utf8 : IsUtf8 text
  pub same : clusters ≡ clusters_of text
  pub taken : progress_fault clusters ≡ None

-- clusters that a style takes consist of characters with a width: a control character is a cluster of no columns
abbrev pub TakenArePlain : Type 0
TakenArePlain = (clusters : List (List ℕ)) → AreTaken clusters → All IsPlainText clusters

-- a style takes the default clusters
abbrev pub FirstAreTaken : Type 0
FirstAreTaken = AreTaken first_clusters

-- how many cells a bar of `width` columns has
abbrev pub cells_in : List (List ℕ) → ℕ → ℕ
cells_in clusters width = width / text_columns (cluster clusters 0)

-- how many of them are filled
abbrev pub filled_cells : Fraction → ℕ → ℕ
filled_cells f cells = f.num * cells / f.den

-- at or past its length, a bar has only filled cells
abbrev pub FullAtItsLength : Type 0
FullAtItsLength = (clusters : List (List ℕ)) (colours : Bool) (alternative : List ℕ) (position len width : ℕ) → len ≤ position
    → bar_text clusters colours alternative (fraction_of position (Some len)) width ≡ times (cells_in clusters width) (cluster clusters 0) ++ styled colours alternative []

-- at position 0 of a length above 0, a bar has no filled cell
abbrev pub EmptyAtItsStart : Type 0
EmptyAtItsStart = (clusters : List (List ℕ)) (colours : Bool) (alternative : List ℕ) (len width : ℕ) → 0 < len
    → bar_text clusters colours alternative (fraction_of 0 (Some len)) width ≡ styled colours alternative (times (cells_in clusters width) (cluster clusters (length clusters - 1)))

-- a later position never has fewer filled cells
abbrev pub NeverFewerCells : Type 0
NeverFewerCells = (position later len cells : ℕ) → position ≤ later → filled_cells (fraction_of position (Some len)) cells ≤ filled_cells (fraction_of later (Some len)) cells

-- no more cells are filled than there are
abbrev pub NeverMoreCells : Type 0
NeverMoreCells = (position len cells : ℕ) → filled_cells (fraction_of position (Some len)) cells ≤ cells

-- the cells of a bar take no more columns than it has
abbrev pub CellsFit : Type 0
CellsFit = (clusters : List (List ℕ)) (width : ℕ) → cells_in clusters width * text_columns (cluster clusters 0) ≤ width

-- a bar takes as many columns as its cells
abbrev pub BarsTakeTheirCells : Type 0
BarsTakeTheirCells = (clusters : List (List ℕ)) (colours : Bool) (alternative : List ℕ) (position : ℕ) (len : Option ℕ) (width : ℕ) → AreTaken clusters
    → text_columns (bar_text clusters colours alternative (fraction_of position len) width) ≡ cells_in clusters width * text_columns (cluster clusters 0)

-- a bar takes exactly its width if its clusters' columns divide it
abbrev pub BarsFill : Type 0
BarsFill = (clusters : List (List ℕ)) (colours : Bool) (alternative : List ℕ) (position : ℕ) (len : Option ℕ) (width : ℕ) → AreTaken clusters
    → width % text_columns (cluster clusters 0) ≡ 0 → text_columns (bar_text clusters colours alternative (fraction_of position len) width) ≡ width

-- a bar never takes more columns than its width
abbrev pub BarsFit : Type 0
BarsFit = (clusters : List (List ℕ)) (colours : Bool) (alternative : List ℕ) (position : ℕ) (len : Option ℕ) (width : ℕ) → AreTaken clusters
    → text_columns (bar_text clusters colours alternative (fraction_of position len) width) ≤ width

-- a bar's text with `filled` filled clusters: these, at most one of the clusters between the first and the last, and unfilled ones, together as many as there are cells
pub record ShowsFilled (clusters : List (List ℕ)) (colours : Bool) (alternative : List ℕ) (width filled : ℕ) (text : List ℕ) : Type 0 where
  pub shade : Option ℕ
  pub unfilled : ℕ
  pub parts : text ≡ times filled (cluster clusters 0) ++ concat (map (cluster clusters) (option_to_list shade)) ++ styled colours alternative (times unfilled (cluster clusters (length clusters - 1)))
  pub between : IfSome shade (λ k. (0 < k) × (k < length clusters - 1))
  pub all : filled + length (option_to_list shade) + unfilled ≡ cells_in clusters width

-- a bar's text has as many filled clusters as its fraction of the cells, rounded down
abbrev pub FilledAreShown : Type 0
FilledAreShown = (clusters : List (List ℕ)) (colours : Bool) (alternative : List ℕ) (position len width : ℕ)
    → let f = fraction_of position (Some len) in
    ShowsFilled clusters colours alternative width (filled_cells f (cells_in clusters width)) (bar_text clusters colours alternative f width)

-- the bar of a later position never shows fewer filled clusters
abbrev pub NeverShowsFewer : Type 0
NeverShowsFewer = (clusters : List (List ℕ)) (colours : Bool) (alternative : List ℕ) (position later len width : ℕ) → position ≤ later
    → (n : ℕ) × (m : ℕ) × ShowsFilled clusters colours alternative width n (bar_text clusters colours alternative (fraction_of position (Some len)) width)
    × ShowsFilled clusters colours alternative width m (bar_text clusters colours alternative (fraction_of later (Some len)) width) × (n ≤ m)
