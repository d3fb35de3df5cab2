-- What the bytes of edits ask of a screen.
use Rattle.std.proofs.Common.{ℕ, zero, suc, ◌+◌, ◌≤◌, true, false, ◌≡◌, ◌∙◌, List, [], ◌∷◌, ◌++◌, map, refl, sym, ap, subst, arith, append-nil, is_some}
use Rattle.std.specs.List.{AllByRecursion}
use Rattle.std.proofs.Math.Utf8.{encode, encodes, scalars}
use Rattle.std.proofs.lemmas.Str.{IsUtf8-from_ascii, chars-IsAscii, encodes-IsAscii, scalars-chars}
use Rattle.std.proofs.lemmas.List.Elements.{All-from_recursion}
use Rattle.unicode_width.specs.Width.{char_width}
use Rattle.indicatif_text.specs.Columns.{visible}
use Rattle.indicatif_text.proofs.ColourSequenceLemmas.{visible_none}
use Rattle.indicatif_term.proofs.ColourLemmas.{reset_is}
use Rattle.indicatif_term.specs.Screen.{Op, Put}
use Rattle.indicatif_term.specs.Terminal.{GREATEST}
use Rattle.indicatif_term.specs.Calls.{move_bytes}
use Rattle.indicatif_term.proofs.GlyphLemmas.{some_width}
use Rattle.indicatif_term.proofs.CursorRowLemmas.{IsText, IsShowable}
use Rattle.indicatif_term.proofs.CallLemmas.{Asks, text_asks}
use Rattle.indicatif_term.proofs.MoveLemmas.{asks_append, right_asks}
use Rattle.indicatif_term.proofs.RowsAboveLemmas.{IsLevel}
use Rattle.indicatif_term.specs.Inside.Inks.{RESET, AreColours}
use Rattle.indicatif_term.specs.Inside.RowEdits.{Edit, Stay, Write, Close, Open, IsWritable, edit_columns, edit_bytes}
use Rattle.indicatif_term.proofs.CellEditLemmas.{IsNarrow, right_ops, edit_ops}

pub are_narrow : (es : List Edit) → AllByRecursion IsWritable es → AllByRecursion IsNarrow es
are_narrow [] all = tt
are_narrow (Stay ∷ es) all = (tt, are_narrow es all.1)
are_narrow (Write c ∷ es) all = (all.0.narrow, are_narrow es all.1)
are_narrow (Close ∷ es) all = (tt, are_narrow es all.1)
are_narrow (Open s ∷ es) all = (tt, are_narrow es all.1)

nothing_asks : Asks [] []
nothing_asks = record { asked = refl; reader = refl }

move_asks : (gap : ℕ) → gap ≤ GREATEST → Asks (move_bytes 0x43 gap) (right_ops gap)
move_asks zero low = nothing_asks
move_asks (suc n) low = right_asks (suc n) (omega arith) (omega arith)

char_asks : (c : ℕ) → IsWritable (Write c) → Asks (encode c) (Put c ∷ [])
char_asks c p =
    let wide = some_width (char_width false c) (omega (arith, p.narrow)) in
    let text : IsText 1 (c ∷ []) = record {
      scalars = p.scalar;
      printable = subst (λ v. Rattle.std.specs.List.All (IsShowable 1) v) (sym p.seen) (All-from_recursion (IsShowable 1) (c ∷ [])
          (record { shown_rows = ap is_some wide; fits = omega (arith, p.narrow) }, tt));
    } in
    subst (λ bs. Asks bs (Put c ∷ [])) (append-nil (encode c)) (subst (λ v. Asks (encodes (c ∷ [])) (map (λ c. Put c) v)) p.seen (text_asks 1 (c ∷ []) text))

colour_asks : (s : List ℕ) → AreColours s → Asks s []
colour_asks s p =
    let none : visible s ≡ [] = ap visible (sym (append-nil s)) ∙ p.unseen [] ∙ visible_none in
    let text : IsText 1 s = record {
      scalars = subst (λ cs. scalars cs ≡ true) (chars-IsAscii s p.ascii) (scalars-chars s (IsUtf8-from_ascii s p.ascii));
      printable = subst (λ v. Rattle.std.specs.List.All (IsShowable 1) v) (sym none) (All-from_recursion (IsShowable 1) [] tt);
    } in
    subst (λ bs. Asks bs []) (encodes-IsAscii s p.ascii) (subst (λ v. Asks (encodes s) (map (λ c. Put c) v)) none (text_asks 1 s text))

-- the bytes of edits
pub edits_ask : (gap : ℕ) (es : List Edit) → AllByRecursion IsWritable es → gap + edit_columns es ≤ GREATEST → Asks (edit_bytes gap es) (edit_ops gap es)
edits_ask gap [] all low = nothing_asks
edits_ask gap (Stay ∷ es) all low = edits_ask (suc gap) es all.1 (omega arith)
edits_ask gap (Close ∷ es) all low = asks_append RESET (edit_bytes gap es) [] (edit_ops gap es) (colour_asks RESET reset_is) (edits_ask gap es all.1 low)
edits_ask gap (Open s ∷ es) all low = asks_append s (edit_bytes gap es) [] (edit_ops gap es) (colour_asks s all.0) (edits_ask gap es all.1 low)
edits_ask gap (Write c ∷ es) all low =
    asks_append (move_bytes 0x43 gap) (encode c ++ edit_bytes 0 es) (right_ops gap) (Put c ∷ edit_ops 0 es) (move_asks gap (omega arith))
    (asks_append (encode c) (edit_bytes 0 es) (Put c ∷ []) (edit_ops 0 es) (char_asks c all.0) (edits_ask 0 es all.1 (omega arith)))

rights_level : (gap : ℕ) (ops : List Op) → AllByRecursion IsLevel ops → AllByRecursion IsLevel (right_ops gap ++ ops)
rights_level zero ops level = level
rights_level (suc n) ops level = (tt, level)

pub edits_level : (gap : ℕ) (es : List Edit) → AllByRecursion IsLevel (edit_ops gap es)
edits_level gap [] = tt
edits_level gap (Stay ∷ es) = edits_level (suc gap) es
edits_level gap (Close ∷ es) = edits_level gap es
edits_level gap (Open s ∷ es) = edits_level gap es
edits_level gap (Write c ∷ es) = rights_level gap (Put c ∷ edit_ops 0 es) (tt, edits_level 0 es)
