-- A line with one wide bar of clusters of one column fills its row exactly.
use Rattle.std.proofs.Common.{◌≡◌, ◌≢◌, ℕ, suc, ◌+◌, ◌-◌, ◌*◌, ◌/◌, ◌%◌, ◌<◌, ◌≤◌, Bool, true, false, ◌||◌, List, [], ◌∷◌, ◌++◌, append-nil, append_assoc, length, length-append, refl, sym, ◌∙◌, ap, subst, arith, if◌then◌else◌, Option, Some, None}
use Rattle.std.specs.Prelude.{◌==◌, nat_lt, sum_by, flat_map, find, is_some, unwrap_or, All, encode_utf8_all}
use Rattle.std.specs.Option.{option_map_or}
use Rattle.std.specs.List.{list_all, list_any, slice_split, last_or, AllByRecursion}
use Rattle.std.specs.Str.{chars}
use Rattle.std.proofs.Math.Utf8.{encode, encodes, next}
use Rattle.std.proofs.lemmas.Bool.{cond_both, ne_eqb, and_parts}
use Rattle.std.proofs.lemmas.List.Concat.{flat_map-append}
use Rattle.std.proofs.lemmas.List.Elements.{All-from_recursion, All-append, All-cons}
use Rattle.std.proofs.lemmas.List.Folds.{list_any-append, list_any_none}
use Rattle.std.proofs.lemmas.List.Splits.{slice_split_none}
use Rattle.std.proofs.lemmas.List.Sums.{sum_by-cons}
use Rattle.std.proofs.lemmas.Str.Ascii.{IsAscii-from_all}
use Rattle.std.proofs.lemmas.Str.{IsUtf8-from_ascii, chars-append, chars-IsAscii, encodes-chars}
use Rattle.unicode_width.specs.Width.{char_width}
use Rattle.indicatif_text.specs.Columns.{width_of, visible, is_plain}
use Rattle.indicatif_text.specs.StyleWords.{sequence_of, styled}
use Rattle.indicatif_text.specs.Template.{KeyText}
use Rattle.indicatif_text.specs.declared.template.Alignment.{Alignment}
use Rattle.indicatif_text.specs.declared.template.Alignment.TheVariants.{Left, Center, Right}
use Rattle.indicatif_text.proofs.SeamLemmas.{numbers_are_unseen, others_are_seen, plain_texts_have_widths, one_row}
use Rattle.indicatif_bar.specs.Progress.{Progress}
use Rattle.indicatif_bar.specs.Tabs.{expanded}
use Rattle.indicatif_bar.specs.Trackers.{Tracking}
use Rattle.indicatif_bar.specs.Layout.{text_columns, spaces, surrounded, padded, cluster}
use Rattle.indicatif_bar.specs.Keys.{key_named}
use Rattle.indicatif_bar.specs.Styles.{BarStyle, WideBarOf, filler, is_filler, is_newline, columns_left, with_fillers_as, wide_text, lines_with, key_text, named_text, in_layout, part_text, latest_wide, lines_of_groups, lines, is_line_break}
use Rattle.indicatif_bar.specs.StyleLaws.{cells_in}
use Rattle.indicatif_bar.specs.LineLaws.{parts_text, HasWideBar, FillsRow, WideBarsFill}
use Rattle.indicatif_bar.proofs.FillingLemmas.{no_fillers}
use Rattle.indicatif_bar.proofs.TextWidthLemmas.{Takes, takes_none, takes_as, takes_both, takes_spaces, columns_behind, padded_short, plain_takes}
use Rattle.indicatif_bar.proofs.BarWidthLemmas.{takes_bar, exact}

-- ---- a plain text has no filler and no newline

-- a byte that stands for no character of a plain text: of a control character but ESC
pub record IsStrange (k : ℕ) : Type 0 where
  low : k < 128
  unknown : ((k == 0x1B) || is_some (char_width false k)) ≡ false

pub strange_filler : IsStrange 0
unfolding char_width
strange_filler = record { low = omega arith; unknown = refl }

pub strange_newline : IsStrange 0x0A
unfolding char_width
strange_newline = record { low = omega arith; unknown = refl }

abbrev Without : ℕ → List ℕ → Type 0
Without k text = AllByRecursion (λ b. (b == k) ≡ false) text

without_both : (k : ℕ) (xs ys : List ℕ) → Without k xs → Without k ys → Without k (xs ++ ys)
without_both k [] ys x y = y
without_both k (b ∷ xs) ys x y = (x.0, without_both k xs ys x.1 y)

high_byte : (b k : ℕ) → k < 128 → 128 ≤ b → (b == k) ≡ false
high_byte b k low high = ne_eqb b k (λ e. omega (arith, low, high, e))

without_character : (k c : ℕ) → k < 128 → c ≢ k → Without k (encode c)
unfolding encode
without_character k c low other =
    let two : Without k ((192 + c / 64) ∷ next c ∷ []) = (high_byte (192 + c / 64) k low (omega arith), (high_byte (next c) k low (omega arith), tt)) in
    let three : Without k ((224 + c / 4096) ∷ next (c / 64) ∷ next c ∷ []) =
    (high_byte (224 + c / 4096) k low (omega arith), (high_byte (next (c / 64)) k low (omega arith), (high_byte (next c) k low (omega arith), tt))) in
    let four : Without k ((240 + c / 262144) ∷ next (c / 4096) ∷ next (c / 64) ∷ next c ∷ []) = (
      high_byte (240 + c / 262144) k low (omega arith),
      (
        high_byte (next (c / 4096)) k low (omega arith),
        (high_byte (next (c / 64)) k low (omega arith), (high_byte (next c) k low (omega arith), tt)),
      ),
    ) in
    let long : List ℕ = if nat_lt c 65536 then (224 + c / 4096) ∷ next (c / 64) ∷ next c ∷ [] else (240 + c / 262144) ∷ next (c / 4096) ∷ next (c / 64) ∷ next c ∷ [] in
    cond_both (nat_lt c 128) (c ∷ []) (if nat_lt c 2048 then (192 + c / 64) ∷ next c ∷ [] else long) (Without k) (λ _. (ne_eqb c k other, tt))
    (λ _. cond_both (nat_lt c 2048) ((192 + c / 64) ∷ next c ∷ []) long (Without k) (λ _. two)
    (λ _. cond_both (nat_lt c 65536) ((224 + c / 4096) ∷ next (c / 64) ∷ next c ∷ []) ((240 + c / 262144) ∷ next (c / 4096) ∷ next (c / 64) ∷ next c ∷ []) (Without k) (λ _. three) (λ _. four)))

abbrev is_known : ℕ → Bool
is_known c = (c == 0x1B) || is_some (char_width false c)

without_characters : (k : ℕ) (cs : List ℕ) → IsStrange k → list_all is_known cs ≡ true → Without k (encodes cs)
without_characters k [] s e = tt
without_characters k (c ∷ cs) s e =
    let parts = and_parts (is_known c) (list_all is_known cs) e in
    let other : c ≢ k = λ same. let no : is_known c ≡ false = ap is_known same ∙ s.unknown in cc (parts.0, no) in
    without_both k (encode c) (encodes cs) (without_character k c s.low other) (without_characters k cs s parts.1)

pub takes_without : (k n : ℕ) (text : List ℕ) → IsStrange k → Takes n text → All (λ b. (b == k) ≡ false) text
takes_without k n text s t =
    All-from_recursion (λ b. (b == k) ≡ false) text (subst (Without k) (encodes-chars text t.utf8) (without_characters k (chars text) s (plain_texts_have_widths (chars text) t.plain)))

-- ---- a plain text with a filler in it

-- a text of n columns with one filler
pub record HasFiller (n : ℕ) (text : List ℕ) : Type 0 where
  pub front : List ℕ
  pub back : List ℕ
  pub before : ℕ
  pub behind : ℕ
  pub parts : text ≡ front ++ 0 ∷ back
  pub takes_front : Takes before front
  pub takes_back : Takes behind back
  pub all : before + behind ≡ n

filler_alone : HasFiller 0 filler
filler_alone = record { front = []; back = []; before = 0; behind = 0; parts = refl; takes_front = takes_none; takes_back = takes_none; all = omega arith }

filler_before : (k n : ℕ) (more text : List ℕ) → Takes k more → HasFiller n text → HasFiller (k + n) (more ++ text)
filler_before k n more text t x = record {
  front = more ++ x.front;
  back = x.back;
  before = k + x.before;
  behind = x.behind;
  parts = ap (λ y. more ++ y) x.parts ∙ sym (append_assoc more x.front (0 ∷ x.back));
  takes_front = takes_both k x.before more x.front t x.takes_front;
  takes_back = x.takes_back;
  all = omega (arith, x.all);
}

filler_behind : (k n : ℕ) (more text : List ℕ) → Takes k more → HasFiller n text → HasFiller (n + k) (text ++ more)
filler_behind k n more text t x = record {
  front = x.front;
  back = x.back ++ more;
  before = x.before;
  behind = x.behind + k;
  parts = ap (λ y. y ++ more) x.parts ∙ append_assoc x.front (0 ∷ x.back) more;
  takes_front = x.takes_front;
  takes_back = takes_both x.behind k x.back more x.takes_back t;
  all = omega (arith, x.all);
}

-- what some columns make of a filler is some columns
pub record SomeFiller (text : List ℕ) : Type 0 where
  pub many : ℕ
  pub is : HasFiller many text

takes_sequences : (numbers : List ℕ) → Takes 0 (flat_map sequence_of numbers)
unfolding is_plain visible
takes_sequences numbers =
    let law = numbers_are_unseen numbers [] in
    let seen : visible (chars (flat_map sequence_of numbers)) ≡ [] =
    ap visible (chars-IsAscii (flat_map sequence_of numbers) law.0 ∙ sym (append-nil (flat_map sequence_of numbers))) ∙ law.1 in
    record {
      utf8 = IsUtf8-from_ascii (flat_map sequence_of numbers) law.0;
      plain = ap (list_all (λ c. is_some (char_width false c))) seen;
      columns = ap (sum_by width_of) seen;
    }

pub filler_styled : (colours : Bool) (numbers text : List ℕ) → SomeFiller text → SomeFiller (styled colours numbers text)
filler_styled colours [] text x = x
filler_styled false (n ∷ ns) text x = x
filler_styled true (n ∷ ns) text x =
    let opening = flat_map sequence_of (n ∷ ns) in
    let closing : Takes 0 (sequence_of 0) = subst (Takes 0) (append-nil (sequence_of 0)) (takes_sequences (0 ∷ [])) in
    record { many = 0 + x.many + 0; is = filler_behind 0 (0 + x.many) (sequence_of 0) (opening ++ text) closing (filler_before 0 x.many opening text (takes_sequences (n ∷ ns)) x.is) }

filler_surrounded : (align : Alignment) (n : ℕ) → SomeFiller (surrounded filler align n)
filler_surrounded Left n = record { many = 0 + n; is = filler_behind n 0 (spaces n) filler (takes_spaces n) filler_alone }
filler_surrounded Right n = record { many = n + 0; is = filler_before n 0 (spaces n) filler (takes_spaces n) filler_alone }
filler_surrounded Center n = record {
  many = n / 2 + 0 + (n - n / 2);
  is = filler_behind (n - n / 2) (n / 2 + 0) (spaces (n - n / 2)) (spaces (n / 2) ++ filler) (takes_spaces (n - n / 2))
      (filler_before (n / 2) 0 (spaces (n / 2)) filler (takes_spaces (n / 2)) filler_alone);
}

filler_width : width_of 0 ≡ 0
unfolding char_width
filler_width = refl

filler_ascii : (All (λ b. b < 128) filler)
filler_ascii = All-from_recursion (λ b. b < 128) filler (omega arith, tt)

-- a filler takes no columns, and is seen
pub filler_columns : (back : List ℕ) → text_columns (0 ∷ back) ≡ text_columns back
filler_columns back =
    let ascii = IsAscii-from_all filler filler_ascii in
    ap (λ cs. sum_by width_of (visible cs)) (chars-append filler back (IsUtf8-from_ascii filler ascii) ∙ ap (λ x. x ++ chars back) (chars-IsAscii filler ascii))
    ∙ ap (sum_by width_of) (others_are_seen 0 (chars back) (λ e. omega (arith, e)))
    ∙ omega (arith, sum_by-cons width_of 0 (visible (chars back)), filler_width)

columns_with_filler : (n : ℕ) (text : List ℕ) → HasFiller n text → text_columns text ≡ n
columns_with_filler n text x =
    ap text_columns x.parts ∙ columns_behind x.before x.front (0 ∷ x.back) x.takes_front
    ∙ ap (λ k. x.before + k) (filler_columns x.back ∙ x.takes_back.columns) ∙ x.all

none_columns : text_columns [] ≡ 0
none_columns = takes_none.columns

padded_filler : (width : ℕ) (align : Alignment) (truncate : Bool) → SomeFiller (padded filler width align truncate)
padded_filler width align truncate =
    let none : text_columns filler ≡ 0 = filler_columns [] ∙ none_columns in
    subst SomeFiller (sym (padded_short filler width align truncate (omega (arith, none)))) (filler_surrounded align (width - text_columns filler))

pub sized_filler : (align : Alignment) (truncate : Bool) (width : Option ℕ) → SomeFiller (option_map_or (λ w. padded filler w align truncate) width filler)
sized_filler align truncate None = record { many = 0; is = filler_alone }
sized_filler align truncate (Some width) = padded_filler width align truncate

-- ---- the text of the line

module _ (n : ℕ) (text : List ℕ) (x : HasFiller n text) where
  has_no_filler : (k : ℕ) (part : List ℕ) → Takes k part → list_any is_filler part ≡ false
  has_no_filler k part t = list_any_none is_filler part (takes_without 0 k part strange_filler t)

  has_filler : list_any is_filler text ≡ true
  has_filler = ap (list_any is_filler) x.parts ∙ list_any-append is_filler x.front (0 ∷ x.back) ∙ ap (λ b. b || true) (has_no_filler x.before x.front x.takes_front)

  one_line : slice_split is_newline text ≡ text ∷ []
  one_line =
      let back : All (λ b. (b == 0x0A) ≡ false) (0 ∷ x.back) = All-cons (λ b. (b == 0x0A) ≡ false) 0 x.back refl (takes_without 0x0A x.behind x.back strange_newline x.takes_back) in
      slice_split_none is_newline text (subst (λ t. All (λ b. (b == 0x0A) ≡ false) t) (sym x.parts)
      (All-append (λ b. (b == 0x0A) ≡ false) x.front (0 ∷ x.back) (takes_without 0x0A x.before x.front strange_newline x.takes_front) back))

  left_is : (columns : ℕ) → columns_left columns text ≡ columns - n
  left_is columns =
      ap (λ ls. columns - option_map_or text_columns (find (list_any is_filler) ls) 0) one_line
      ∙ ap (λ b. columns - option_map_or text_columns (if b then Some text else None) 0) has_filler
      ∙ ap (λ k. columns - k) (columns_with_filler n text x)

  replaced : (shown : List ℕ) → with_fillers_as shown text ≡ x.front ++ (shown ++ x.back)
  replaced shown =
      ap (with_fillers_as shown) x.parts ∙ flat_map-append (λ b. if is_filler b then shown else b ∷ []) x.front (0 ∷ x.back)
      ∙ ap (λ y. y ++ (shown ++ with_fillers_as shown x.back)) (no_fillers shown x.front (has_no_filler x.before x.front x.takes_front))
      ∙ ap (λ y. x.front ++ (shown ++ y)) (no_fillers shown x.back (has_no_filler x.behind x.back x.takes_back))

  some_text : length text ≡ suc (length x.front + length x.back)
  some_text = ap length x.parts ∙ omega (arith, length-append x.front (0 ∷ x.back))

  replaced_takes : (k : ℕ) (shown : List ℕ) → Takes k shown → Takes (n + k) (with_fillers_as shown text)
  replaced_takes k shown t =
      subst (Takes (n + k)) (sym (replaced shown)) (takes_as (x.before + (k + x.behind)) (n + k) (x.front ++ (shown ++ x.back)) (omega (arith, x.all))
      (takes_both x.before (k + x.behind) x.front (shown ++ x.back) x.takes_front (takes_both k x.behind shown x.back t x.takes_back)))

none_at : (n k : ℕ) → n ≡ suc k → (n == 0) ≡ false
none_at n k e = ne_eqb n 0 (λ z. omega (arith, e, z))

kept_by : {X : Type 0} (b : Bool) (xs : List X) → b ≡ false → (if b then [] else xs) ≡ xs
kept_by b xs e = rw e refl

filled_row : (columns : ℕ) (line : List ℕ) → Takes columns line → FillsRow columns line
filled_row columns line t = record { plain = (t.utf8, t.plain); columns_are = t.columns; one_row = one_row (chars line) columns (omega (arith, t.columns)) }

module _ {K : Type 0} (m : Tracking K) (style : BarStyle K) (p : Progress) (now columns : ℕ) (h : HasWideBar m style p now columns) where
  bar_named : named_text m style p now (encode_utf8_all h.name) h.layout ≡ filler
  bar_named = ap (λ o. elim o as (λ _. List ℕ) [
    | Some k ↦ expanded style.tab (m.text k p now)
    | None ↦ option_map_or (key_text m style p now h.layout) (key_named (encode_utf8_all h.name)) []
  ]) h.no_tracker
      ∙ ap (λ key. option_map_or (key_text m style p now h.layout) key []) h.is_bar

  bar_filler : SomeFiller (part_text m style p now (KeyText h.name h.layout))
  bar_filler = subst (λ t. SomeFiller (in_layout m style p now h.layout t)) (sym bar_named)
      (filler_styled style.colours (unwrap_or h.layout.style []) _ (sized_filler h.layout.align h.layout.truncate h.layout.width))

  text_filler : SomeFiller (parts_text m style p now style.parts)
  text_filler =
      let before = parts_text m style p now h.front in
      let bar = part_text m style p now (KeyText h.name h.layout) in
      let behind = parts_text m style p now h.back in
      let whole : parts_text m style p now style.parts ≡ before ++ (bar ++ behind) = ap (parts_text m style p now) h.parts
      ∙ flat_map-append (part_text m style p now) h.front (KeyText h.name h.layout ∷ h.back) in
      let inner = filler_behind (text_columns behind) bar_filler.many behind bar (plain_takes behind h.plain_back) bar_filler.is in
      let all = filler_before (text_columns before) (bar_filler.many + text_columns behind) before (bar ++ behind) (plain_takes before h.plain_front) inner in
      subst SomeFiller (sym whole) (record { many = text_columns before + (bar_filler.many + text_columns behind); is = all })

  -- the line: the text with the bar in the place of its filler
  abbrev text_of_line : List ℕ
  text_of_line = with_fillers_as (wide_text style p columns (parts_text m style p now style.parts) (WideBarOf h.bar h.layout)) (parts_text m style p now style.parts)

  line_takes : Takes columns text_of_line
  line_takes =
      let text = parts_text m style p now style.parts in
      let x = text_filler.is in
      let n = text_filler.many in
      let u = text_columns (cluster style.clusters 0) in
      let left = columns_left columns text in
      let even : left % u ≡ 0 = ap (λ k. left % k) h.narrow ∙ omega arith in
      let bar = takes_bar style.clusters style.colours (unwrap_or h.layout.alternative []) p h.bar left h.clusters in
      let shown = takes_as (cells_in style.clusters left * u) left _ (exact left u even) bar in
      let all : n + left ≡ columns = omega (arith, left_is n text x columns, columns_with_filler n text x, h.room) in
      takes_as (n + left) columns text_of_line all (replaced_takes n text x left (wide_text style p columns text (WideBarOf h.bar h.layout)) shown)

  line_alone : lines m style p now columns ≡ text_of_line ∷ []
  unfolding lines
  line_alone =
      let text = parts_text m style p now style.parts in
      let some = none_at (length text) _ (some_text text_filler.many text text_filler.is) in
      ap (lines_of_groups m style p now columns None) (slice_split_none is_line_break style.parts h.one_line)
      ∙ kept_by (length text == 0) (lines_with style p columns (latest_wide m style p now None style.parts) text) some
      ∙ ap (λ ws. lines_with style p columns (last_or None ws) text) h.alone
      ∙ slice_split_none is_newline text_of_line (takes_without 0x0A columns text_of_line strange_newline line_takes)

pub wide_bars_fill : {K : Type 0} → WideBarsFill K
wide_bars_fill m style p now columns h = (
  text_of_line m style p now columns h,
  line_alone m style p now columns h,
  filled_row columns (text_of_line m style p now columns h) (line_takes m style p now columns h),
)
