-- What a text read cell by cell has: its visible characters, and the colours that are open at each.
use Rattle.std.proofs.Common.{inl, inr, ◌≡◌, ℕ, zero, suc, ◌+◌, ◌-◌, ◌<◌, ◌≤◌, Bool, true, false, ◌&&◌, not, if◌then◌else◌, List, [], ◌∷◌, ◌++◌, length, map, replicate, take, drop, Some, None, refl, sym, ◌∙◌, ap, subst, arith, length-append, append_assoc, append-nil, chars}
use Rattle.std.specs.Prelude.{◌==◌, flat_map, nat_lt, unwrap_or}
use Rattle.std.specs.Str.{IsAscii}
use Rattle.std.proofs.Math.Seq.{drop-append_seam, take-append_seam}
use Rattle.std.proofs.lemmas.Str.{IsAscii-append, chars-IsAscii}
use Rattle.std.proofs.lemmas.Str.Ascii.{IsAscii-nil}
use Rattle.indicatif_text.proofs.ColourSequenceLemmas.{Scanned, scanned_front, scanned_ascii, scanned_chars_front, scanned_chars_rest, some_sequence}
use Rattle.std.specs.List.{AllByRecursion, list_any}
use Rattle.std.proofs.lemmas.Bool.{cases_Bool, cond_both, and_parts, eqb-true, ltb-true, false≢true}
use Rattle.std.proofs.lemmas.List.{length-map, length-replicate, map-append}
use Rattle.indicatif_text.specs.Columns.{visible, colour_length, rows_of, last_columns}
use Rattle.indicatif_text.specs.Pieces.{TextPiece, Run, Colour, joined_to, pieces_of_text}
use Rattle.indicatif_text.specs.PieceLaws.{run_text}
use Rattle.indicatif_text.proofs.PieceLemmas.{first_colour, first_joined, none_left}
use Rattle.indicatif_text.proofs.PieceLawLemmas.{by_pieces, runs_are_visible}
use Rattle.indicatif_term.specs.Inside.Inks.{closes, in_colours, painted_from, colours_behind, painted, Ink, NONE, colours_of, Inked, in_ink, characters, as_painted, begun, read_from, read, is_tidy, IsRead, padded, AreColours}
use Rattle.indicatif_term.proofs.ColourLemmas.{no_colours, more_colours, sequence_colours}
use Rattle.indicatif_term.proofs.EditLineLemmas.{IsOne}
use Rattle.indicatif_term.proofs.PartingLemmas.{uncoloured, ones_visible, ones_unescaped, ones_front, ones_back, ones_both, front_visible, single_last}

-- ---- the characters of cells

in_ink_characters : (ink : Ink) (cs : List ℕ) → characters (map (in_ink ink) cs) ≡ cs
in_ink_characters ink [] = refl
in_ink_characters ink (c ∷ cs) = ap (λ x. c ∷ x) (in_ink_characters ink cs)

run_characters : (ink : Ink) (text : List ℕ) (cells : List Inked) → characters (map (in_ink ink) text ++ cells) ≡ text ++ characters cells
run_characters ink text cells =
    map-append (λ (x : Inked). x.char) (map (in_ink ink) text) cells ∙ ap (λ x. x ++ characters cells) (in_ink_characters ink text)

from_characters : (fresh : Bool) (ink : Ink) (ps : List TextPiece) → characters (read_from fresh ink ps) ≡ flat_map run_text ps
from_characters fresh ink [] = refl
from_characters fresh ink (Run text ∷ ps) = run_characters ink text (read_from false ink ps) ∙ ap (λ x. text ++ x) (from_characters false ink ps)
from_characters fresh ink (Colour s ∷ ps) = from_characters true (if closes s then NONE else begun fresh ink s) ps

-- what is read of a text is what is visible of it
pub read_characters : (ink : Ink) (text : List ℕ) → characters (read ink text) ≡ visible text
read_characters ink text = from_characters false ink (pieces_of_text text) ∙ runs_are_visible text

pub read_length : (ink : Ink) (text : List ℕ) → length (read ink text) ≡ length (visible text)
read_length ink text = sym (length-map (read ink text) (λ (x : Inked). x.char)) ∙ ap length (read_characters ink text)

-- ---- what is read is what is there

-- with so few groups open, none stands before the last one, or nothing is open
record IsDeep (groups : ℕ) (ink : Ink) : Type 0 where
  nothing : groups ≡ 0 → colours_of ink ≡ []
  alone : groups < 2 → ink.base ≡ []

none_deep : IsDeep 0 NONE
none_deep = record { nothing = λ e. refl; alone = λ e. refl }

empty_group : (base group : List ℕ) → base ≡ [] → base ++ group ≡ [] → group ≡ []
empty_group base group e f = ap (λ x. x ++ group) (sym e) ∙ f

begun_colours_of : (fresh : Bool) (ink : Ink) (s : List ℕ) → (fresh ≡ false → ink.base ≡ []) → colours_of (begun fresh ink s) ≡ colours_of ink ++ s
begun_colours_of true ink s alone = sym (append_assoc ink.base ink.group s)
begun_colours_of false ink s alone = ap (λ x. (x ++ ink.group) ++ s) (sym (alone refl))

begun_deeper : (fresh : Bool) (groups : ℕ) (ink : Ink) (s : List ℕ) → groups < 2 → (fresh ≡ true → groups ≡ 0) → IsDeep groups ink → IsDeep (groups + 1) (begun fresh ink s)
begun_deeper true groups ink s few first d = record {
  nothing = λ e. absurd (omega (arith, e));
  alone = λ e. d.alone few;
}
begun_deeper false groups ink s few first d = record {
  nothing = λ e. absurd (omega (arith, e));
  alone = λ e. empty_group ink.base ink.group (d.alone few) (d.nothing (omega (arith, e)));
}

begun_within : (groups : ℕ) (ink : Ink) (s : List ℕ) → (groups == 0) ≡ false → IsDeep groups ink → IsDeep groups (begun true ink s)
begun_within groups ink s some d = record {
  nothing = λ e. absurd (false≢true (sym some ∙ ap (λ n. n == 0) e));
  alone = d.alone;
}

as_runs : (ink : Ink) (text : List ℕ) (cells : List Inked) → map as_painted (map (in_ink ink) text ++ cells) ≡ map (in_colours (colours_of ink)) text ++ map as_painted cells
as_runs ink [] cells = refl
as_runs ink (c ∷ text) cells = ap (λ x. in_colours (colours_of ink) c ∷ x) (as_runs ink text cells)

abbrev IsSame : Bool → Ink → List ℕ → List TextPiece → Type 0
IsSame fresh ink colours ps = (map as_painted (read_from fresh ink ps) ≡ painted_from colours ps) × (colours_behind colours ps ≡ [])

moved : (fresh : Bool) (ink : Ink) (colours other : List ℕ) (ps : List TextPiece) → colours ≡ other → IsSame fresh ink colours ps → IsSame fresh ink other ps
moved fresh ink colours other ps e r = (r.0 ∙ ap (λ i. painted_from i ps) e, ap (λ i. colours_behind i ps) (sym e) ∙ r.1)

-- the same of pieces behind a sequence that opens
module _ (ps : List TextPiece) (go : (fresh : Bool) (groups : ℕ) (ink : Ink) → is_tidy fresh groups ps ≡ true → IsDeep groups ink → IsSame fresh ink (colours_of ink) ps) where
  opened_painted : (fresh : Bool) (groups : ℕ) (ink : Ink) (s : List ℕ) →
      (if fresh && not (groups == 0) then is_tidy true groups ps else nat_lt groups 2 && is_tidy true (groups + 1) ps) ≡ true → IsDeep groups ink →
      IsSame true (begun fresh ink s) (colours_of ink ++ s) ps
  opened_painted true groups ink s e d = elim (cases_Bool (groups == 0)) [
    | inl is ↦
        let both = and_parts (nat_lt groups 2) (is_tidy true (groups + 1) ps) (rw is at e) in
        let none : groups ≡ 0 = eqb-true groups 0 is in
        moved true (begun true ink s) _ _ ps (begun_colours_of true ink s (λ f. absurd (cc f)))
        (go true (groups + 1) (begun true ink s) both.1 (begun_deeper true groups ink s (omega (arith, none)) (λ f. none) d))
    | inr some ↦
        moved true (begun true ink s) _ _ ps (begun_colours_of true ink s (λ f. absurd (cc f)))
        (go true groups (begun true ink s) (rw some at e) (begun_within groups ink s some d))
  ]
  opened_painted false groups ink s e d =
      let both = and_parts (nat_lt groups 2) (is_tidy true (groups + 1) ps) e in
      let few : groups < 2 = ltb-true groups 2 both.0 in
      moved true (begun false ink s) _ _ ps (begun_colours_of false ink s (λ f. d.alone few))
      (go true (groups + 1) (begun false ink s) both.1 (begun_deeper false groups ink s few (λ f. absurd (cc f)) d))

from_painted : (fresh : Bool) (groups : ℕ) (ink : Ink) (ps : List TextPiece) → is_tidy fresh groups ps ≡ true → IsDeep groups ink → IsSame fresh ink (colours_of ink) ps
from_painted fresh groups ink [] e d = (refl, d.nothing (eqb-true groups 0 e))
from_painted fresh groups ink (Run text ∷ ps) e d =
    let rest = from_painted false groups ink ps e d in
    (as_runs ink text (read_from false ink ps) ∙ ap (λ x. map (in_colours (colours_of ink)) text ++ x) rest.0, rest.1)
from_painted fresh groups ink (Colour s ∷ ps) e d = elim (cases_Bool (closes s)) [
  | inl is ↦ rw is (from_painted true 0 NONE ps (rw is at e) none_deep)
  | inr other ↦ rw other (opened_painted ps (λ f g i t h. from_painted f g i ps t h) fresh groups ink s (rw other at e) d)
]

pub read_painted : (text : List ℕ) → IsRead text → (map as_painted (read NONE text) ≡ painted text) × (colours_behind [] (pieces_of_text text) ≡ [])
read_painted text r = from_painted false 0 NONE (pieces_of_text text) r.tidy none_deep

-- ---- from the front of a text

joined_read : (fresh : Bool) (ink : Ink) (c : ℕ) (ps : List TextPiece) → read_from fresh ink (joined_to c ps) ≡ in_ink ink c ∷ read_from false ink ps
joined_read fresh ink c [] = refl
joined_read fresh ink c (Run text ∷ ps) = refl
joined_read fresh ink c (Colour s ∷ ps) = refl

joined_painted : (colours : List ℕ) (c : ℕ) (ps : List TextPiece) → painted_from colours (joined_to c ps) ≡ in_colours colours c ∷ painted_from colours ps
joined_painted colours c [] = refl
joined_painted colours c (Run text ∷ ps) = refl
joined_painted colours c (Colour s ∷ ps) = refl

joined_tidy : (fresh : Bool) (groups c : ℕ) (ps : List TextPiece) → is_tidy fresh groups (joined_to c ps) ≡ is_tidy false groups ps
joined_tidy fresh groups c [] = refl
joined_tidy fresh groups c (Run text ∷ ps) = refl
joined_tidy fresh groups c (Colour s ∷ ps) = refl

pub read_char : (fresh : Bool) (ink : Ink) (c : ℕ) (cs : List ℕ) → colour_length (c ∷ cs) ≡ None → read_from fresh ink (pieces_of_text (c ∷ cs)) ≡ in_ink ink c ∷ read ink cs
read_char fresh ink c cs e = ap (read_from fresh ink) (first_joined c cs e) ∙ joined_read fresh ink c (pieces_of_text cs)

pub read_none : (fresh : Bool) (ink : Ink) → read_from fresh ink (pieces_of_text []) ≡ []
read_none fresh ink = ap (read_from fresh ink) none_left

pub read_stale : (ink : Ink) (cs : List ℕ) → colour_length cs ≡ None → read_from true ink (pieces_of_text cs) ≡ read ink cs
read_stale ink [] e = read_none true ink ∙ sym (read_none false ink)
read_stale ink (c ∷ cs) e = read_char true ink c cs e ∙ sym (read_char false ink c cs e)

pub read_sequence : (fresh : Bool) (ink : Ink) (n : ℕ) (cs : List ℕ) → colour_length cs ≡ Some n → 0 < n →
    read_from fresh ink (pieces_of_text cs) ≡ read_from true (if closes (take n cs) then NONE else begun fresh ink (take n cs)) (pieces_of_text (drop n cs))
read_sequence fresh ink n cs e some = ap (read_from fresh ink) (first_colour n cs e some)

-- a beginning without escape characters
pub read_front : (ink : Ink) (front cs : List ℕ) → list_any (λ c. c == 0x1B) front ≡ false → read ink (front ++ cs) ≡ map (in_ink ink) front ++ read ink cs
read_front ink [] cs e = refl
read_front ink (c ∷ front) cs e = elim (cases_Bool (c == 0x1B)) [
  | inl is ↦ absurd (let t : list_any (λ c. c == 0x1B) (c ∷ front) ≡ true = rw is refl in cc)
  | inr other ↦ read_char false ink c (front ++ cs) (uncoloured c (front ++ cs) other) ∙ ap (λ x. in_ink ink c ∷ x) (read_front ink front cs (rw other at e))
]

pub painted_front : (front cs : List ℕ) → list_any (λ c. c == 0x1B) front ≡ false → painted (front ++ cs) ≡ map (in_colours []) front ++ painted cs
painted_front [] cs e = refl
painted_front (c ∷ front) cs e = elim (cases_Bool (c == 0x1B)) [
  | inl is ↦ absurd (let t : list_any (λ c. c == 0x1B) (c ∷ front) ≡ true = rw is refl in cc)
  | inr other ↦
      ap (painted_from []) (first_joined c (front ++ cs) (uncoloured c (front ++ cs) other)) ∙ joined_painted [] c (pieces_of_text (front ++ cs))
      ∙ ap (λ x. in_colours [] c ∷ x) (painted_front front cs (rw other at e))
]

tidy_front : (front cs : List ℕ) → list_any (λ c. c == 0x1B) front ≡ false → is_tidy false 0 (pieces_of_text (front ++ cs)) ≡ is_tidy false 0 (pieces_of_text cs)
tidy_front [] cs e = refl
tidy_front (c ∷ front) cs e = elim (cases_Bool (c == 0x1B)) [
  | inl is ↦ absurd (let t : list_any (λ c. c == 0x1B) (c ∷ front) ≡ true = rw is refl in cc)
  | inr other ↦
      ap (is_tidy false 0) (first_joined c (front ++ cs) (uncoloured c (front ++ cs) other)) ∙ joined_tidy false 0 c (pieces_of_text (front ++ cs))
      ∙ tidy_front front cs (rw other at e)
]

module _ (front cs : List ℕ) (plain : list_any (λ c. c == 0x1B) front ≡ false) where
  seen_front : visible (front ++ cs) ≡ front ++ visible cs
  seen_front = front_visible front cs plain

  -- a text that is read right, behind such a beginning
  pub read_behind : IsRead (front ++ cs) → AllByRecursion IsOne front × IsRead cs
  read_behind r =
      let all = subst (AllByRecursion IsOne) seen_front r.single in
      (ones_front front (visible cs) all, record { single = ones_back front (visible cs) all; tidy = sym (tidy_front front cs plain) ∙ r.tidy })

  pub read_whole : AllByRecursion IsOne front → IsRead cs → IsRead (front ++ cs)
  read_whole ones r = record {
    single = subst (AllByRecursion IsOne) (sym seen_front) (ones_both front (visible cs) ones r.single);
    tidy = tidy_front front cs plain ∙ r.tidy;
  }

-- how many columns of a line of one row follow such a beginning
pub columns_behind : (w : ℕ) (front cs : List ℕ) → list_any (λ c. c == 0x1B) front ≡ false → IsRead (front ++ cs) → length (rows_of w (front ++ cs)) ≡ 1 →
    last_columns w (front ++ cs) ≡ length front + length (visible cs)
columns_behind w front cs plain r one_row =
    single_last w (front ++ cs) r.single one_row ∙ ap length (front_visible front cs plain) ∙ length-append front (visible cs)

-- a text whose characters take one column each
pub plain_read : (text : List ℕ) → AllByRecursion IsOne text → IsRead text
plain_read text all =
    let none : IsRead [] = record { single = subst (AllByRecursion IsOne) (sym (ones_visible [] tt)) tt; tidy = ap (is_tidy false 0) none_left } in
    subst IsRead (append-nil text) (read_whole text [] (ones_unescaped text all) all none)

-- ---- cells padded with spaces

spaces_characters : (m : ℕ) → characters (replicate m (in_ink NONE 0x20)) ≡ replicate m 0x20
spaces_characters zero = refl
spaces_characters (suc m) = ap (λ x. 0x20 ∷ x) (spaces_characters m)

pub padded_length : (n : ℕ) (cells : List Inked) → length cells ≤ n → length (padded n cells) ≡ n
padded_length n cells few =
    omega (arith, length-append cells (replicate (n - length cells) (in_ink NONE 0x20)), length-replicate {A = Inked} (n - length cells) (in_ink NONE 0x20))

pub padded_characters : (n : ℕ) (cells : List Inked) → characters (padded n cells) ≡ characters cells ++ replicate (n - length (characters cells)) 0x20
padded_characters n cells =
    map-append (λ (x : Inked). x.char) cells (replicate (n - length cells) (in_ink NONE 0x20)) ∙ ap (λ x. characters cells ++ x) (spaces_characters (n - length cells))
    ∙ ap (λ k. characters cells ++ replicate (n - k) 0x20) (sym (length-map cells (λ (x : Inked). x.char)))

-- ---- their colours

-- pieces whose sequences are colours
abbrev AreInks : List TextPiece → Type 0
AreInks [] = Unit {0}
AreInks (Run text ∷ ps) = AreInks ps
AreInks (Colour s ∷ ps) = AreColours s × AreInks ps

joined_inks : (c : ℕ) (ps : List TextPiece) → AreInks ps → AreInks (joined_to c ps)
joined_inks c [] all = tt
joined_inks c (Run text ∷ ps) all = all
joined_inks c (Colour s ∷ ps) all = all

inks : (text : List ℕ) → AreInks (pieces_of_text text)
inks = by_pieces (λ cs ps. AreInks ps) tt (λ c cs ps none all. joined_inks c ps all) (λ n cs ps s all. (sequence_colours s, all))

-- sequences that can be written
pub record CanBeOpened (ink : Ink) : Type 0 where
  pub base : AreColours ink.base
  pub group : AreColours ink.group

pub none_opens : CanBeOpened NONE
none_opens = record { base = no_colours; group = no_colours }

begun_opens : (fresh : Bool) (ink : Ink) (s : List ℕ) → CanBeOpened ink → AreColours s → CanBeOpened (begun fresh ink s)
begun_opens true ink s p q = record { base = p.base; group = more_colours ink.group s p.group q }
begun_opens false ink s p q = record { base = p.group; group = q }

behind_opens : (fresh : Bool) (ink : Ink) (s : List ℕ) → CanBeOpened ink → AreColours s → CanBeOpened (if closes s then NONE else begun fresh ink s)
behind_opens fresh ink s p q = cond_both (closes s) NONE (begun fresh ink s) CanBeOpened (λ e. none_opens) (λ e. begun_opens fresh ink s p q)

abbrev pub IsInked : Inked → Type 0
IsInked x = CanBeOpened x.ink

run_inked : (ink : Ink) (text : List ℕ) (cells : List Inked) → CanBeOpened ink → AllByRecursion IsInked cells → AllByRecursion IsInked (map (in_ink ink) text ++ cells)
run_inked ink [] cells p all = all
run_inked ink (c ∷ text) cells p all = (p, run_inked ink text cells p all)

from_colours : (fresh : Bool) (ink : Ink) (ps : List TextPiece) → CanBeOpened ink → AreInks ps → AllByRecursion IsInked (read_from fresh ink ps)
from_colours fresh ink [] p all = tt
from_colours fresh ink (Run text ∷ ps) p all = run_inked ink text (read_from false ink ps) p (from_colours false ink ps p all)
from_colours fresh ink (Colour s ∷ ps) p all = from_colours true (if closes s then NONE else begun fresh ink s) ps (behind_opens fresh ink s p all.0) all.1

pub read_colours : (text : List ℕ) → AllByRecursion IsInked (read NONE text)
read_colours text = from_colours false NONE (pieces_of_text text) none_opens (inks text)

-- ---- the sequences in front of a text, one by one

abbrev pub upon : List ℕ → List ℕ → Ink
upon base group = record { base = base; group = group }

-- what a text has, read from `rest` on, where the last sequences that are open stand from `begin` to there, upon others
pub record IsBegun (cells : List Inked) (base begin rest : List ℕ) : Type 0 where
  pub group : List ℕ
  pub ascii : IsAscii group
  pub begin_is : begin ≡ group ++ rest
  pub same : read_from true (upon base group) (pieces_of_text (chars rest)) ≡ cells

-- at the first of them
begins_anew : (ink : Ink) (n : ℕ) (cs : List ℕ) → colour_length cs ≡ Some n → 0 < n → read_from true (upon ink.group []) (pieces_of_text cs) ≡ read ink cs
begins_anew ink n cs e some = read_sequence true (upon ink.group []) n cs e some ∙ sym (read_sequence false ink n cs e some)

pub begun_first : (ink : Ink) (text : List ℕ) (n : ℕ) → n ≡ unwrap_or (colour_length (chars text)) 0 → 0 < n → IsBegun (read ink (chars text)) ink.group text text
begun_first ink text n e some = record {
  group = [];
  ascii = IsAscii-nil;
  begin_is = refl;
  same = begins_anew ink n (chars text) (some_sequence (colour_length (chars text)) n e some) some;
}

module _ (cells : List Inked) (base begin rest behind : List ℕ) (n : ℕ) (b : IsBegun cells base begin rest) (s : Scanned rest n behind)
    (e : n ≡ unwrap_or (colour_length (chars rest)) 0) (some : 0 < n) where
  abbrev sequence : List ℕ
  sequence = take n rest

  next_is : read_from true (if closes (chars sequence) then NONE else upon base (b.group ++ chars sequence)) (pieces_of_text (chars behind)) ≡ cells
  next_is =
      ap (λ s. read_from true (if closes s then NONE else upon base (b.group ++ s)) (pieces_of_text (chars behind))) (sym (scanned_chars_front rest behind n s))
      ∙ ap (λ cs. read_from true (if closes (take n (chars rest)) then NONE else upon base (b.group ++ take n (chars rest))) (pieces_of_text cs)) (sym (scanned_chars_rest rest behind n s))
      ∙ sym (read_sequence true (upon base b.group) n (chars rest) (some_sequence (colour_length (chars rest)) n e some) some)
      ∙ b.same

  -- behind one that closes all
  pub begun_closed : closes (chars sequence) ≡ true → IsBegun cells [] behind behind
  begun_closed is = record {
    group = [];
    ascii = IsAscii-nil;
    begin_is = refl;
    same = ap (λ t. read_from true (if t then NONE else upon base (b.group ++ chars sequence)) (pieces_of_text (chars behind))) (sym is) ∙ next_is;
  }

  -- and behind another
  pub begun_more : closes (chars sequence) ≡ false → IsBegun cells base begin behind
  begun_more other =
      let ascii : IsAscii sequence = scanned_ascii rest behind n s in
      let whole : rest ≡ sequence ++ behind = s.whole ∙ ap (λ x. x ++ behind) (sym (scanned_front rest behind n s)) in
      record {
        group = b.group ++ sequence;
        ascii = IsAscii-append b.group sequence b.ascii ascii;
        begin_is = b.begin_is ∙ ap (λ x. b.group ++ x) whole ∙ sym (append_assoc b.group sequence behind);
        same = ap (λ x. read_from true (upon base (b.group ++ x)) (pieces_of_text (chars behind))) (sym (chars-IsAscii sequence ascii))
            ∙ ap (λ t. read_from true (if t then NONE else upon base (b.group ++ chars sequence)) (pieces_of_text (chars behind))) (sym other) ∙ next_is;
      }

-- behind the last of them
module _ (cells : List Inked) (base begin rest : List ℕ) (b : IsBegun cells base begin rest) where
  begun_count : length begin - length rest ≡ length b.group
  begun_count = omega (arith, ap length b.begin_is, length-append b.group rest)

  pub begun_group : take (length begin - length rest) begin ≡ b.group
  begun_group = ap (λ n. take n begin) begun_count ∙ ap (take (length b.group)) b.begin_is ∙ take-append_seam b.group rest

  pub begun_rest : drop (length begin - length rest) begin ≡ rest
  begun_rest = ap (λ n. drop n begin) begun_count ∙ ap (drop (length b.group)) b.begin_is ∙ drop-append_seam b.group rest

  pub begun_cells : colour_length (chars rest) ≡ None → read (upon base b.group) (chars rest) ≡ cells
  begun_cells none = sym (read_stale (upon base b.group) (chars rest) none) ∙ b.same
