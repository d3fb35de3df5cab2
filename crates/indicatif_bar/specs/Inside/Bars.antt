-- The parts of a bar. Texts are lists of bytes in UTF-8.
use Rattle.std.specs.Prelude.{ℕ, ◌-◌, ◌*◌, ◌/◌, ◌%◌, ◌&&◌, nat_lt, List, ◌++◌, length, Option, Some, None, map, option_to_list, string_bytes, if◌then◌else◌}
use Rattle.std.specs.List.{concat}
use Rattle.std.specs.declared.string.String.{String}
use Rattle.std.specs.declared.alloc.Global.{Global}
use Rattle.indicatif_bar.specs.Layout.{times, cluster}
use Rattle.indicatif_bar.specs.declared.measures.Fraction.{Fraction}

-- the cluster that shows a partly filled cell, if there is one
abbrev pub shade_of : Fraction → ℕ → ℕ → Option ℕ
shade_of f cells clusters =
    let fill = f.num * cells in
    let shades = clusters - 2 in
    if nat_lt 0 fill && nat_lt (fill / f.den) cells && nat_lt 0 shades then Some (shades - fill % f.den * shades / f.den) else None

-- the cells up to the first that isn't filled in part
abbrev pub begun_text : List (List ℕ) → Fraction → ℕ → List ℕ
begun_text clusters f cells = times (f.num * cells / f.den) (cluster clusters 0) ++ concat (map (cluster clusters) (option_to_list (shade_of f cells (length clusters))))

-- how many cells are left
abbrev pub cells_left : Fraction → ℕ → ℕ → ℕ
cells_left f cells clusters = cells - f.num * cells / f.den - length (option_to_list (shade_of f cells clusters))

-- the bytes of texts
abbrev pub bytes_of_strings : List (String Global) → List (List ℕ)
bytes_of_strings texts = map string_bytes texts
