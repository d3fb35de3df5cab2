-- Bars below the last row of a terminal change nothing of a drawing where no line can be too wide.
use Rattle.std.proofs.Common.{◌≡◌, ◌⊎◌, inl, inr, ⊎_elim, if◌then◌else◌, ℕ, ◌+◌, ◌-◌, ◌<◌, ◌≤◌, nat_le, nat_lt, Bool, true, false, ◌&&◌, IsTrue, List, [], ◌∷◌, ◌++◌, map, take, drop, min, length, flat_map, refl, sym, ap, subst, ◌∙◌, arith, Result, Ok, Err, Some, length-append}
use Rattle.std.proofs.lemmas.Bool.{cond_both, lt-leb, le-leb, leb-true, and_parts}
use Rattle.std.proofs.lemmas.Bool.Decides.{nat_tests, leb_tells}
use Rattle.std.proofs.lemmas.List.{append_assoc, drop-map, drop-take, length-map, take-map, length-take, take_all, take-append-drop, take-take}
use Rattle.std.proofs.lemmas.List.Folds.{list_all-append}
use Rattle.std.proofs.lemmas.Grind.{common_steps, flat_map-append}
use Rattle.std.specs.List.{list_any}
use Rattle.unicode_width.specs.declared.kind.Kind.{Kind}
use Rattle.unicode_width.specs.declared.kind.Kind.TheVariants as kinds
use Rattle.unicode_width.specs.Width.{alone, char_width, of_kind, single}
use Rattle.unicode_width.specs.Kind.{kind}
use Rattle.indicatif_text.specs.Columns.{width_of, visible, has_wide, rows_of, is_plain}
use Rattle.indicatif_term.specs.Lines.{all_lines, are_plain, bar_lines, some_wide}
use Rattle.indicatif_text.specs.declared.refusal.Refusal.{Refusal}
use Rattle.indicatif_text.specs.declared.refusal.Refusal.TheVariants.{NoColumns, TooWide, Terminal, Memory, ZeroRate, FewTicks, FewProgressChars, UnequalWidths, ZeroWidthChars, Template, WidthTooLarge, ForeignBar, NotMember, ElapsedBeyondClock, ZeroSize, ZeroPieces, RecordedTarget}
use Rattle.indicatif_term.specs.Calls.{TermView}
use Rattle.indicatif_term.specs.Engines.{engine_term, Answers, Fits, Paints, is_failure, lists_after}
use Rattle.indicatif_term.specs.Lists.{Lists, BarLines, BarRows, lines_of, fitting, grouped, shown_rows, segments_height, live_height, blanks_for, live_of_frame, passed, settled, rested, drawn, logged}
use Rattle.indicatif_term.specs.declared.engine.Engine.{Engine}
use Rattle.indicatif_term.specs.declared.target.lines.Segment.{Segment}
use Rattle.indicatif_bar.specs.Machines.{Target, target_of}
use Rattle.indicatif_bar.specs.Kinds.{Writing, Frame, TextAndFrame, NoFrame, has_line, lines_to_write, rows_take, written_lists}
use Rattle.indicatif_bar.specs.Shown.{PutsFrame}
use Rattle.indicatif_board.specs.Inside.InWindow.{drawn_from}
use Rattle.indicatif_term.proofs.TerminalStepLemmas.{rows_some}

-- ---- no character takes more than three columns

single_narrow : (c : ℕ) → (single false c).0 ≤ 3
single_narrow c = grind (arith, nat_tests, common_steps)

kind_narrow : (c : ℕ) (k : Kind) → (of_kind false c k).0 ≤ 3
kind_narrow c kinds.Zero = omega arith
kind_narrow c kinds.Narrow = omega arith
kind_narrow c kinds.Wide = omega arith
kind_narrow c kinds.Ambiguous = omega arith
kind_narrow c kinds.Alef = omega arith
kind_narrow c kinds.KhmerLetter = omega arith
kind_narrow c kinds.TifinaghConsonant = omega arith
kind_narrow c kinds.LisuTone = omega arith
kind_narrow c kinds.RegionalIndicator = omega arith
kind_narrow c kinds.EmojiModifier = omega arith
kind_narrow c kinds.Emoji = omega arith
kind_narrow c kinds.Single = single_narrow c

char_narrow : (c : ℕ) → width_of c ≤ 3
unfolding char_width alone
char_narrow c = let of : (of_kind false c (kind c)).0 ≤ 3 = kind_narrow c (kind c) in grind (arith, nat_tests, common_steps, of)

none_any : {A : Type 0} (f : A → Bool) (xs : List A) → ((x : A) → f x ≡ false) → list_any f xs ≡ false
none_any f [] none = refl
none_any f (x ∷ xs) none = rw (none x) (none_any f xs none)

line_narrow : (w : ℕ) (line : List ℕ) → 3 ≤ w → has_wide w line ≡ false
unfolding has_wide
line_narrow w line wide = none_any (λ c. nat_lt w (width_of c)) (visible line) (λ c. let n = char_narrow c in grind (arith, nat_tests, n))

lines_narrow : (w : ℕ) (lines : List (List ℕ)) → 3 ≤ w → some_wide w lines ≡ false
lines_narrow w lines wide = none_any (has_wide w) lines (λ line. line_narrow w line wide)

-- any answer that is right of some lines is right of others
answers_any : (w : ℕ) (lines others : List (List ℕ)) (answer : Result Unit Refusal) → 3 ≤ w → Answers w lines answer → Answers w others answer
answers_any w lines others (Ok u) wide right = (right.0, lines_narrow w others wide)
answers_any w lines others (Err NoColumns) wide right = right
answers_any w lines others (Err TooWide) wide right = absurd (cc (sym (lines_narrow w lines wide) ∙ right.1))
answers_any w lines others (Err (Terminal failure)) wide right = (right.0, lines_narrow w others wide)
answers_any w lines others (Err Memory) wide right = right
answers_any w lines others (Err ZeroRate) wide right = absurd right
answers_any w lines others (Err FewTicks) wide right = absurd right
answers_any w lines others (Err FewProgressChars) wide right = absurd right
answers_any w lines others (Err UnequalWidths) wide right = absurd right
answers_any w lines others (Err ZeroWidthChars) wide right = absurd right
answers_any w lines others (Err (Template next state)) wide right = absurd right
answers_any w lines others (Err WidthTooLarge) wide right = absurd right
answers_any w lines others (Err ForeignBar) wide right = absurd right
answers_any w lines others (Err NotMember) wide right = absurd right
answers_any w lines others (Err ElapsedBeyondClock) wide right = absurd right
answers_any w lines others (Err ZeroSize) wide right = absurd right
answers_any w lines others (Err ZeroPieces) wide right = absurd right
answers_any w lines others (Err RecordedTarget) wide right = absurd right

-- ---- lines that fit

-- each has a row
abbrev AreSome : List BarRows → Type 0
AreSome [] = Unit {0}
AreSome (s ∷ ss) = (0 < length s.rows) × AreSome ss

some_append : (a b : List BarRows) → AreSome a → AreSome b → AreSome (a ++ b)
some_append [] b left right = right
some_append (s ∷ a) b left right = (left.0, some_append a b left.1 right)

some_lines : (w bar : ℕ) (lines : List (List ℕ)) → AreSome (map (λ line. record { bar = bar; rows = rows_of w line }) lines)
some_lines w bar [] = tt
some_lines w bar (line ∷ lines) = (rows_some w line, some_lines w bar lines)

frame_some : (w : ℕ) (frame : List BarLines) → AreSome (lines_of w frame)
unfolding lines_of
frame_some w [] = tt
frame_some w (s ∷ frame) = some_append (map (λ line. record { bar = s.bar; rows = rows_of w line }) s.lines) (lines_of w frame) (some_lines w s.bar s.lines) (frame_some w frame)

frame_count : (w : ℕ) (frame : List BarLines) → length (lines_of w frame) ≡ length (all_lines frame)
unfolding lines_of
frame_count w [] = refl
frame_count w (s ∷ frame) =
    let here : List BarRows = map (λ line. record { bar = s.bar; rows = rows_of w line }) s.lines in
    let count : length here ≡ length s.lines = length-map s.lines (λ line. record { bar = s.bar; rows = rows_of w line }) in
    omega (arith, length-append here (lines_of w frame), length-append s.lines (all_lines frame), count, frame_count w frame)

lines_of-append : (w : ℕ) (a b : List BarLines) → lines_of w (a ++ b) ≡ lines_of w a ++ lines_of w b
unfolding lines_of
lines_of-append w a b = flat_map-append (λ (s : BarLines). map (λ line. record { bar = s.bar; rows = rows_of w line }) s.lines) a b

none_fit : (ss : List BarRows) → AreSome ss → fitting 0 ss ≡ []
unfolding fitting
none_fit [] some = refl
none_fit (s ∷ ss) some = let row = some.0 in rw (lt-leb (length s.rows) 0 row) refl

-- where as many lines as rows come first, no other fits
front_fits : (h : ℕ) (a b : List BarRows) → AreSome a → AreSome b → h ≤ length a → fitting h (a ++ b) ≡ fitting h a
unfolding fitting
front_fits h [] b left right most = let zero_is : h ≡ 0 = omega (arith, most) in ap (λ n. fitting n b) zero_is ∙ none_fit b right ∙ sym (ap (λ n. fitting n []) zero_is)
front_fits h (s ∷ a) b left right most =
    let row = left.0 in
    cond_both (nat_le (length s.rows) h) (s ∷ fitting (h - length s.rows) a) [] (λ x. (if nat_le (length s.rows) h then s ∷ fitting (h - length s.rows) (a ++ b) else []) ≡ x)
    (λ fits. let less : h - length s.rows ≤ length a = omega (arith, most, row) in rw fits (ap (λ ss. s ∷ ss) (front_fits (h - length s.rows) a b left.1 right less)))
    (λ over. rw over refl)

-- a number of bars at the front are all, or have as many lines as the terminal has rows
abbrev pub IsEnough : ℕ → ℕ → List BarLines → Type 0
IsEnough h n frame = (n ≡ length frame) ⊎ (h ≤ length (all_lines (take n frame)))

front_shown : (w h n : ℕ) (frame : List BarLines) → IsEnough h n frame → shown_rows w h (take n frame) ≡ shown_rows w h frame
unfolding shown_rows lines_of
front_shown w h n frame (inl all) = ap (shown_rows w h) (take_all n frame (omega (arith, all)))
front_shown w h n frame (inr enough) =
    let front = lines_of w (take n frame) in
    let rest = lines_of w (drop n frame) in
    let whole : lines_of w frame ≡ front ++ rest = ap (lines_of w) (sym (take-append-drop n frame)) ∙ lines_of-append w (take n frame) (drop n frame) in
    ap grouped (sym (ap (fitting h) whole ∙ front_fits h front rest (frame_some w (take n frame)) (frame_some w (drop n frame)) (omega (arith, enough, frame_count w (take n frame)))))

-- ---- a frame without the bars behind these

still_enough : (h gone n : ℕ) (frame : List BarLines) → IsEnough h n frame → n ≤ gone → take n (take gone frame) ≡ take n frame → IsEnough h n (take gone frame)
still_enough h gone n frame (inl all) many same = inl (omega (arith, all, many, length-take gone frame))
still_enough h gone n frame (inr enough) many same = inr (subst (λ f. h ≤ length (all_lines f)) (sym same) enough)

-- as many of the first bars as there are among these
gone_shown : (w h gone n : ℕ) (frame : List BarLines) → IsEnough h n frame → n ≤ length frame →
    shown_rows w h (take (min gone n) (take n frame)) ≡ shown_rows w h (take gone frame)
gone_shown w h gone n frame enough within = ⊎_elim
    (λ told.
    let few : gone ≤ n = told.1 in
    let least : min gone n ≡ gone = omega (arith, few) in
    ap (λ k. shown_rows w h (take k (take n frame))) least ∙ ap (shown_rows w h) (take-take gone n frame few))
    (λ told.
    let many : n ≤ gone = omega (arith, told.1) in
    let least : min gone n ≡ n = omega (arith, many) in
    let same : take n (take gone frame) ≡ take n frame = take-take n gone frame many in
    let front : IsEnough h n (take gone frame) = still_enough h gone n frame enough many same in
    ap (λ k. shown_rows w h (take k (take n frame))) least ∙ ap (shown_rows w h) (take-take n n frame (omega arith)) ∙ ap (shown_rows w h) (sym same) ∙ front_shown w h n (take gone frame) front)
    (leb_tells gone n)

frame_drawn : (w h gone n : ℕ) (bottom : Bool) (frame : List BarLines) (l : Lists) → IsEnough h n frame → n ≤ length frame →
    drawn w h bottom (min gone n) (take n frame) l ≡ drawn w h bottom gone frame l
unfolding drawn
frame_drawn w h gone n bottom frame l enough within =
    let passes : length (shown_rows w h (take (min gone n) (take n frame))) ≡ length (shown_rows w h (take gone frame)) = ap length (gone_shown w h gone n frame enough within) in
    ap (λ segments. rested (settled h (passed w (length (shown_rows w h (take (min gone n) (take n frame)))) (record l {
      live = record { blanks = blanks_for bottom (live_height l.live) 0 (segments_height segments); segments = segments };
    }))))
    (front_shown w h n frame enough)
    ∙ ap (λ k. rested (settled h (passed w k (record l { live = live_of_frame w h bottom (live_height l.live) 0 frame })))) passes

frame_logged : (w h n : ℕ) (bottom : Bool) (text : List (List ℕ)) (frame : List BarLines) (l : Lists) → IsEnough h n frame →
    logged w h bottom text (take n frame) l ≡ logged w h bottom text frame l
unfolding logged
frame_logged w h n bottom text frame l enough =
    let rows = flat_map (rows_of w) text in
    ap (λ segments. rested (settled h (record l {
      above = l.above ++ rows;
      kept = [];
      live = record { blanks = blanks_for bottom (length l.kept + live_height l.live) (length rows) (segments_height segments); segments = segments };
    }))) (front_shown w h n frame enough)

-- ---- what an engine was asked to write

all_lines-front : (n : ℕ) (frame : List BarLines) → all_lines frame ≡ all_lines (take n frame) ++ all_lines (drop n frame)
all_lines-front n frame = ap all_lines (sym (take-append-drop n frame)) ∙ flat_map-append (λ (s : BarLines). s.lines) (take n frame) (drop n frame)

front_has_line : (n : ℕ) (frame : List BarLines) → IsTrue (has_line (take n frame)) → IsTrue (has_line frame)
front_has_line n frame some =
    let here : 0 < length (all_lines (take n frame)) = leb-true 1 (length (all_lines (take n frame))) some in
    let all : length (all_lines frame) ≡ length (all_lines (take n frame)) + length (all_lines (drop n frame)) =
    ap length (all_lines-front n frame) ∙ length-append (all_lines (take n frame)) (all_lines (drop n frame)) in
    le-leb 1 (length (all_lines frame)) (omega (arith, here, all))

front_plain : (n : ℕ) (text : List (List ℕ)) (frame : List BarLines) → IsTrue (are_plain (text ++ all_lines frame)) → IsTrue (are_plain (text ++ all_lines (take n frame)))
front_plain n text frame plain =
    let front = all_lines (take n frame) in
    let rest = all_lines (drop n frame) in
    let whole : text ++ all_lines frame ≡ (text ++ front) ++ rest = ap (λ ls. text ++ ls) (all_lines-front n frame) ∙ sym (append_assoc text front rest) in
    let both : (are_plain (text ++ front) && are_plain rest) ≡ true = sym (list_all-append is_plain (text ++ front) rest) ∙ ap are_plain (sym whole) ∙ plain in
    (and_parts (are_plain (text ++ front)) (are_plain rest) both).0

-- a number of bars at the front are enough for what is written on a terminal of h rows
abbrev pub SeesEnough : ℕ → Writing → ℕ → ℕ → List BarLines → Type 0
SeesEnough h writing gone n frame = let first = drawn_from writing gone in (first ≤ n) × IsEnough h (n - first) (drop first frame)

-- of all bars
enough_of_all : (h n : ℕ) (frame : List BarLines) → IsEnough h (n - 0) frame → IsEnough h n frame
enough_of_all h n frame enough = let same : n - 0 ≡ n = omega arith in subst (λ k. IsEnough h k frame) same enough

pub first_within : (writing : Writing) (gone : ℕ) → drawn_from writing gone ≤ gone
first_within Frame gone = omega arith
first_within (TextAndFrame text) gone = omega arith
first_within NoFrame gone = omega arith

-- by the bars themselves
pub sees_enough : (h : ℕ) (writing : Writing) (gone first n : ℕ) (frame rest : List Segment) → first ≡ drawn_from writing gone → rest ≡ drop first frame →
    (n ≡ length rest) ⊎ (h ≤ length (all_lines (map bar_lines (take n rest)))) → SeesEnough h writing gone (first + n) (map bar_lines frame)
sees_enough h writing gone first n frame rest first_is rest_is enough =
    let same : (first + n) - first ≡ n = omega arith in
    let behind : map bar_lines rest ≡ drop first (map bar_lines frame) = ap (map bar_lines) rest_is ∙ sym (drop-map bar_lines first frame) in
    subst (λ k. (k ≤ first + n) × IsEnough h ((first + n) - k) (drop k (map bar_lines frame))) first_is
    (omega arith, subst (λ f. IsEnough h ((first + n) - first) f) behind (subst (λ k. IsEnough h k (map bar_lines rest)) (sym same) (enough_as h n rest enough)))
  where
    enough_as : (h n : ℕ) (rest : List Segment) → (n ≡ length rest) ⊎ (h ≤ length (all_lines (map bar_lines (take n rest)))) → IsEnough h n (map bar_lines rest)
    enough_as h n rest (inl all) = inl (all ∙ sym (length-map rest bar_lines))
    enough_as h n rest (inr some) = inr (subst (λ f. h ≤ length (all_lines f)) (sym (take-map bar_lines n rest)) some)

-- behind those that are gone
front_behind : (gone n : ℕ) (frame : List BarLines) → gone ≤ n → drop (min gone n) (take n frame) ≡ take (n - gone) (drop gone frame)
front_behind gone n frame few =
    let least : min gone n ≡ gone = omega (arith, few) in
    let parts : n ≡ gone + (n - gone) = omega (arith, few) in
    ap (λ k. drop k (take n frame)) least ∙ ap (λ k. drop gone (take k frame)) parts ∙ drop-take gone (n - gone) frame

written_same : (writing : Writing) (target : Target) (bottom : Bool) (gone n : ℕ) (frame : List BarLines) (l : Lists) → SeesEnough target.rows writing gone n frame → n ≤ length frame →
    written_lists writing target bottom (min gone n) (take n frame) l ≡ written_lists writing target bottom gone frame l
written_same Frame target bottom gone n frame l enough within = frame_drawn target.columns target.rows gone n bottom frame l (enough_of_all target.rows n frame enough.1) within
written_same (TextAndFrame text) target bottom gone n frame l enough within =
    ap (λ f. logged target.columns target.rows bottom text f l) (front_behind gone n frame enough.0)
    ∙ frame_logged target.columns target.rows (n - gone) bottom text (drop gone frame) l enough.1
written_same NoFrame target bottom gone n frame l enough within = refl

rows_same : (h : ℕ) (writing : Writing) (gone n : ℕ) (frame : List BarLines) → SeesEnough h writing gone n frame →
    IsTrue (rows_take writing (min gone n) (take n frame)) → IsTrue (rows_take writing gone frame)
rows_same h Frame gone n frame enough some = front_has_line n frame some
rows_same h (TextAndFrame text) gone n frame enough some =
    front_has_line (n - gone) (drop gone frame) (subst (λ f. IsTrue (has_line f)) (front_behind gone n frame enough.0) some)
rows_same h NoFrame gone n frame enough some = some

lines_plain : (h : ℕ) (writing : Writing) (gone n : ℕ) (frame : List BarLines) → SeesEnough h writing gone n frame →
    IsTrue (are_plain (lines_to_write writing gone frame)) → IsTrue (are_plain (lines_to_write writing (min gone n) (take n frame)))
lines_plain h Frame gone n frame enough plain = front_plain n [] frame plain
lines_plain h (TextAndFrame text) gone n frame enough plain =
    subst (λ f. IsTrue (are_plain (text ++ all_lines f))) (sym (front_behind gone n frame enough.0)) (front_plain (n - gone) text (drop gone frame) plain)
lines_plain h NoFrame gone n frame enough plain = plain

module _ {T : Type 0} (view : T → TermView) (writing : Writing) (bottom : Bool) (gone n : ℕ) (frame : List BarLines) (old new : Engine T) (answer : Result Unit Refusal) where
  pub puts_all : 3 ≤ (view (engine_term old)).columns → SeesEnough (view (engine_term old)).rows writing gone n frame → n ≤ length frame →
      PutsFrame view writing bottom (min gone n) (take n frame) old new answer → PutsFrame view writing bottom gone frame old new answer
  puts_all wide enough within puts =
      let v = view (engine_term old) in
      let target = target_of (Some v) in
      record {
        answers = answers_any v.columns (lines_to_write writing (min gone n) (take n frame)) (lines_to_write writing gone frame) answer wide puts.answers;
        memory = λ short. rows_same v.rows writing gone n frame enough (puts.memory short);
        counted = puts.counted;
        unchanged = puts.unchanged;
        moves = puts.moves;
        lists = λ l fits. subst (λ after. Fits new (lists_after answer l after)) (written_same writing target bottom gone n frame l enough within) (puts.lists l fits);
        paints = λ l fits plain. subst (λ after. Paints v (view (engine_term new)) (is_failure answer) l (lists_after answer l after)) (written_same writing target bottom gone n frame l enough within)
            (puts.paints l fits (lines_plain v.rows writing gone n frame enough plain));
      }
