-- The bytes of a walk through lines, line by line.
use Rattle.std.proofs.Common.{min, inl, inr, ◌≡◌, ℕ, ◌+◌, ◌-◌, ◌<◌, ◌≤◌, Bool, true, false, List, [], ◌∷◌, ◌++◌, length, take, drop, get_or, Result, refl, sym, ◌∙◌, ap, subst, arith, append_assoc, append-nil}
use Rattle.std.specs.Prelude.{◌&&◌, ◌==◌, if◌then◌else◌, nat_lt, slice_index, IsErrAnd, string_bytes}
use Rattle.std.specs.declared.io.ErrorKind.{ErrorKind}
use Rattle.std.proofs.lemmas.Bool.{cases_Bool, false≢true}
use Rattle.std.proofs.lemmas.List.{take_more, map-append, take-append-drop}
use Rattle.indicatif_term.specs.Calls.{TermView, LeadsOn, BreaksOff, UP, DOWN, RIGHT, move_bytes}
use Rattle.indicatif_term.specs.Inside.MoveBytes.{Sends}
use Rattle.indicatif_term.specs.Inside.Changing.{LineChange, Leave, Within, Whole, PlacedLine, placed_height, emptied_bytes, changed_bytes, step_bytes, step_down, walk_bytes, walk_down, frame_bytes, ending, ending_by, last_bytes, stays, all_stay, among_bytes, ends_plainly, last_byte}
use Rattle.std.proofs.Math.Utf8.{encode}
use Rattle.indicatif_term.proofs.LastCharLemmas.{last_is}
use Rattle.indicatif_term.specs.Inside.Parting.{change_of, IsReady}
use Rattle.indicatif_term.specs.declared.engine.comparing.Step.{Step}
use Rattle.indicatif_term.specs.Standing.{placed_of, placed, AreReady}
use Rattle.indicatif_term.specs.declared.engine.remembered.StandingLine.{StandingLine}
use Rattle.indicatif_term.proofs.CallTurnLemmas.{reaches_then, breaks_then, sends_fail}
use Rattle.indicatif_term.proofs.BesideLemmas.{ready_at}
use Rattle.indicatif_term.proofs.AmongLemmas.{among_parts}
use Rattle.indicatif_term.proofs.RememberedLemmas.{height_push, up_to_last, height_to_last}
use Rattle.indicatif_term.proofs.EditWalkLemmas.{height-append, walk-append, down-append}

step_low : (c : LineChange) (down n m : ℕ) → down ≤ m → 1 ≤ m → step_down c down n ≤ m + n
step_low Leave down n m a b = omega arith
step_low (Within k es) down n m a b = omega arith
step_low Whole down n m a b = omega arith

low_from : (down n : ℕ) (ps : List PlacedLine) → down ≤ n → 1 ≤ n → walk_down down ps ≤ n + placed_height ps
low_from down n [] a b = omega arith
low_from down n (p ∷ ps) a b =
    let z : walk_down (step_down p.change down p.rows) ps ≤ (n + p.rows) + placed_height ps = low_from (step_down p.change down p.rows)
    (n + p.rows) ps (step_low p.change down p.rows n a b) (omega arith) in
    omega arith

pub down_low : (ps : List PlacedLine) → walk_down 0 ps ≤ 1 + placed_height ps
down_low ps = low_from 0 1 ps (omega arith) (omega arith)

pub stay-append : (ps qs : List PlacedLine) → all_stay (ps ++ qs) ≡ (all_stay ps && all_stay qs)
stay-append [] qs = refl
stay-append (p ∷ ps) qs = ap (λ b. stays p.change && b) (stay-append ps qs) ∙ and_assoc (stays p.change) (all_stay ps) (all_stay qs) where
  and_assoc : (a b c : Bool) → (a && (b && c)) ≡ ((a && b) && c)
  and_assoc true b c = refl
  and_assoc false b c = refl

and-true : (b : Bool) → (b && true) ≡ b
and-true true = refl
and-true false = refl

and-false : (b : Bool) → (b && false) ≡ false
and-false true = refl
and-false false = refl

-- the walk through some lines of a list
module _ (lines : List StandingLine) (i : ℕ) (x : StandingLine) (h : i < length lines) (e : get_or lines i x ≡ x) where
  split : placed (take (i + 1) lines) ≡ placed (take i lines) ++ placed_of x ∷ []
  split = ap placed (take_more lines i x h ∙ ap (λ y. take i lines ++ y ∷ []) e) ∙ map-append placed_of (take i lines) (x ∷ [])

  abbrev step : List ℕ
  step = step_bytes (placed_of x).change (walk_down 0 (placed (take i lines))) x.rows (string_bytes x.text)

  pub bytes_next : walk_bytes 0 (placed (take (i + 1) lines)) ≡ walk_bytes 0 (placed (take i lines)) ++ step
  bytes_next = ap (walk_bytes 0) split ∙ walk-append 0 (placed (take i lines)) (placed_of x ∷ []) ∙ ap (λ y. walk_bytes 0 (placed (take i lines)) ++ y) (append-nil step)

  pub down_next : walk_down 0 (placed (take (i + 1) lines)) ≡ step_down (placed_of x).change (walk_down 0 (placed (take i lines))) x.rows
  down_next = ap (walk_down 0) split ∙ down-append 0 (placed (take i lines)) (placed_of x ∷ [])

  pub room_next : placed_height (placed lines) ≤ 65535 → walk_down 0 (placed (take i lines)) + x.rows ≤ 65536
  room_next small =
      let whole : placed (take (i + 1) lines) ++ placed (drop (i + 1) lines) ≡ placed lines =
      sym (map-append placed_of (take (i + 1) lines) (drop (i + 1) lines)) ∙ ap placed (take-append-drop (i + 1) lines) in
      let z = down_low (placed (take i lines)) in
      omega (arith, height_push lines i x h e, ap placed_height whole, height-append (placed (take (i + 1) lines)) (placed (drop (i + 1) lines)))

  -- the bytes of this line with a step, from this far above it
  abbrev stepped : Step → ℕ → List ℕ
  stepped s down = step_bytes (change_of s (string_bytes x.before) (string_bytes x.text)) down x.rows (string_bytes x.text)

  is_step : (s : Step) (down : ℕ) → x.step ≡ s → down ≡ walk_down 0 (placed (take i lines)) → stepped s down ≡ step
  is_step s down is d = ap (λ z. stepped z down) (sym is) ∙ ap (stepped x.step) d

  pub walk_next : (up : List ℕ) (s : Step) (down : ℕ) (v t u : TermView) → x.step ≡ s → down ≡ walk_down 0 (placed (take i lines)) → LeadsOn (up ++ walk_bytes 0 (placed (take i lines))) v t →
      LeadsOn (stepped s down) t u → LeadsOn (up ++ walk_bytes 0 (placed (take (i + 1) lines))) v u
  walk_next up s down v t u is d p q =
      subst (λ b. LeadsOn b v u) (append_assoc up (walk_bytes 0 (placed (take i lines))) (stepped s down)
      ∙ ap (λ y. up ++ (walk_bytes 0 (placed (take i lines)) ++ y)) (is_step s down is d) ∙ ap (λ y. up ++ y) (sym bytes_next)) (reaches_then p q)

  pub down_after : (s : Step) (down : ℕ) → x.step ≡ s → down ≡ walk_down 0 (placed (take i lines)) →
      step_down (change_of s (string_bytes x.before) (string_bytes x.text)) down x.rows ≡ walk_down 0 (placed (take (i + 1) lines))
  down_after s down is d =
      ap (λ z. step_down (change_of z (string_bytes x.before) (string_bytes x.text)) down x.rows) (sym is) ∙ ap (λ n. step_down (placed_of x).change n x.rows) d ∙ sym down_next

  -- a failure within a line is one of the whole
  pub walk_fails : (up last : List ℕ) (s : Step) (down : ℕ) (v t u : TermView) (e : ErrorKind) (r : Result Unit ErrorKind) → x.step ≡ s → down ≡ walk_down 0 (placed (take i lines)) →
      IsErrAnd r (λ z. z ≡ e) → LeadsOn (up ++ walk_bytes 0 (placed (take i lines))) v t → BreaksOff (stepped s down) e t u → Sends (up ++ (walk_bytes 0 (placed lines) ++ last)) v u r
  walk_fails up last s down v t u e r is d h p q =
      let whole : placed (take (i + 1) lines) ++ placed (drop (i + 1) lines) ≡ placed lines =
      sym (map-append placed_of (take (i + 1) lines) (drop (i + 1) lines)) ∙ ap placed (take-append-drop (i + 1) lines) in
      let before = walk_bytes 0 (placed (take i lines)) in
      let rest = walk_bytes (walk_down 0 (placed (take (i + 1) lines))) (placed (drop (i + 1) lines)) in
      let all : walk_bytes 0 (placed lines) ≡ (before ++ stepped s down) ++ rest =
      ap (walk_bytes 0) (sym whole) ∙ walk-append 0 (placed (take (i + 1) lines)) (placed (drop (i + 1) lines))
      ∙ ap (λ y. y ++ rest) (bytes_next ∙ ap (λ y. before ++ y) (sym (is_step s down is d))) in
      let b : Sends (((up ++ before) ++ stepped s down) ++ (rest ++ last)) v u r = sends_fail (rest ++ last) e r h (breaks_then p q) in
      subst (λ y. Sends y v u r) (six up before (stepped s down) rest last ∙ ap (λ y. up ++ (y ++ last)) (sym all)) b where
        six : (a b c d e : List ℕ) → ((a ++ b) ++ c) ++ (d ++ e) ≡ a ++ (((b ++ c) ++ d) ++ e)
        six a b c d e = simp append_assoc

  pub stays_more : stays (placed_of x).change ≡ true → all_stay (placed (take (i + 1) lines)) ≡ all_stay (placed (take i lines))
  stays_more is = ap all_stay split ∙ stay-append (placed (take i lines)) (placed_of x ∷ []) ∙ ap (λ b. all_stay (placed (take i lines)) && (b && true)) is
      ∙ and-true (all_stay (placed (take i lines)))

  pub stays_less : stays (placed_of x).change ≡ false → all_stay (placed lines) ≡ false
  stays_less is =
      let whole : placed (take (i + 1) lines) ++ placed (drop (i + 1) lines) ≡ placed lines =
      sym (map-append placed_of (take (i + 1) lines) (drop (i + 1) lines)) ∙ ap placed (take-append-drop (i + 1) lines) in
      ap all_stay (sym whole) ∙ stay-append (placed (take (i + 1) lines)) (placed (drop (i + 1) lines))
      ∙ ap (λ b. b && all_stay (placed (drop (i + 1) lines))) (ap all_stay split ∙ stay-append (placed (take i lines)) (placed_of x ∷ [])
      ∙ ap (λ b. all_stay (placed (take i lines)) && (b && true)) is ∙ and-false (all_stay (placed (take i lines))))

-- bytes of calls, put in other brackets
pub three : {A : Type 0} (a b c : List A) → (a ++ b) ++ c ≡ a ++ (b ++ c)
three a b c = append_assoc a b c

pub four_two : {A : Type 0} (a b c d : List A) → (a ++ b) ++ (c ++ d) ≡ a ++ ((b ++ c) ++ d)
four_two a b c d = append_assoc a b (c ++ d) ∙ ap (λ x. a ++ x) (sym (append_assoc b c d))

pub four : {A : Type 0} (a b c d : List A) → ((a ++ b) ++ c) ++ d ≡ a ++ ((b ++ c) ++ d)
four a b c d = append_assoc (a ++ b) c d ∙ four_two a b c d

pub in_three : {A : Type 0} (a b c : List A) → a ++ (b ++ c) ≡ (a ++ b) ++ c
in_three a b c = sym (append_assoc a b c)

pub in_four : {A : Type 0} (a b c d : List A) → a ++ (b ++ (c ++ d)) ≡ ((a ++ b) ++ c) ++ d
in_four a b c d = in_three a b (c ++ d) ∙ in_three (a ++ b) c d

-- the rows of a last line stay as many
ending_rows : (w : ℕ) (p : PlacedLine) → (ending w p).rows ≡ p.rows
ending_rows w p = by_change p.change where
  by_change : (c : LineChange) → (ending_by c w p).rows ≡ p.rows
  by_change Leave = elim (cases_Bool (nat_lt p.last w)) [
    | inl is ↦ rw is refl
    | inr full ↦ elim (cases_Bool (ends_plainly p.line)) [ inl plain ↦ rw (full, plain) refl | inr other ↦ rw (full, other) refl ]
  ]
  by_change (Within k es) = elim (cases_Bool p.waits) [ inl is ↦ rw is refl | inr other ↦ rw other refl ]
  by_change Whole = refl

-- a last line that stays and ends plainly: its last character again
pub left_bytes : (w down : ℕ) (p : PlacedLine) → p.change ≡ Leave → nat_lt p.last w ≡ false → ends_plainly p.line ≡ true →
    last_bytes w down p ≡ move_bytes DOWN (down + p.rows - 1) ++ ((0x0D ∷ []) ++ (move_bytes RIGHT (w - 1) ++ last_byte p.line))
left_bytes w down p e full plain =
    let c = slice_index p.line (length p.line - 1) in
    let front = λ (x : List ℕ). move_bytes DOWN (down + p.rows - 1) ++ ((0x0D ∷ []) ++ (move_bytes RIGHT (w - 1) ++ x)) in
    let bytes = λ (k : LineChange). let q = ending_by k w p in step_bytes q.change down q.rows q.line in
    let left : bytes Leave ≡ front (encode c ++ []) = rw (full, plain) refl in
    ap bytes e ∙ left ∙ ap front (append-nil (encode c) ∙ sym (last_is p.line plain))

-- lines and the last one: up, through the others, and the last
pub frame_split : (w below : ℕ) (ps : List PlacedLine) (p : PlacedLine) →
    frame_bytes below (ps ++ ending w p ∷ []) ≡ move_bytes UP (placed_height ps + p.rows - 1 + below) ++ (walk_bytes 0 ps ++ last_bytes w (walk_down 0 ps) p)
frame_split w below ps p =
    let q = ending w p in
    let n : placed_height (ps ++ q ∷ []) ≡ placed_height ps + p.rows = height-append ps (q ∷ []) ∙ omega (arith, ending_rows w p) in
    ap (λ m. move_bytes UP (m - 1 + below) ++ walk_bytes 0 (ps ++ q ∷ [])) n
    ∙ ap (λ x. move_bytes UP (placed_height ps + p.rows - 1 + below) ++ x) (walk-append 0 ps (q ∷ []) ∙ ap (λ x. walk_bytes 0 ps ++ x) (append-nil (last_bytes w (walk_down 0 ps) p)))

-- lines among others: nothing, or up, through the others, and the last
pub nothing_among : (w taken : ℕ) (ps : List PlacedLine) → ((taken == 0) && all_stay ps) ≡ true → among_bytes w taken ps ≡ []
nothing_among w taken [] e = refl
nothing_among w taken (p ∷ ps) e = rw e refl

-- some lines, and the last of them
module _ (ls : List StandingLine) (x : StandingLine) (some : (length ls == 0) ≡ false) (e : get_or ls (length ls - 1) x ≡ x) where
  abbrev upper : List StandingLine
  upper = take (length ls - 1) ls

  counted : length ls - 1 + 1 ≡ length ls
  counted = elim ls as (λ xs. (length xs == 0) ≡ false → length xs - 1 + 1 ≡ length xs) [ [] ↦ λ z. absurd (false≢true (sym z)) | y ∷ ys ↦ λ z. omega arith ] some

  pub all_height : placed_height (placed ls) ≡ placed_height (placed upper) + x.rows
  all_height = height_to_last ls (length ls - 1) x counted e

  pub upper_low : placed_height (placed ls) ≤ 65535 → placed_height (placed upper) ≤ 65535
  upper_low small = omega (arith, all_height, small)

  pub last_ready : AreReady ls → IsReady x.step (string_bytes x.before) (string_bytes x.text)
  last_ready ready = ready_at ls (length ls - 1) x (omega (arith, counted)) e ready

  pub last_low : (down : ℕ) → down ≡ walk_down 0 (placed upper) → placed_height (placed ls) ≤ 65535 → down + x.rows ≤ 65536
  last_low down d small = omega (arith, d, down_low (placed upper), all_height, small)

  pub among_split : (w taken : ℕ) → ((taken == 0) && all_stay (placed ls)) ≡ false →
      among_bytes w taken (placed ls)
      ≡ move_bytes UP (placed_height (placed ls) - 1 + min taken 1) ++ (walk_bytes 0 (placed upper) ++ last_bytes w (walk_down 0 (placed upper)) (placed_of x))
  among_split w taken go =
      let s = up_to_last ls (length ls - 1) x counted e in
      let ps = placed upper in
      let p = placed_of x in
      let goes : ((taken == 0) && all_stay (ps ++ p ∷ [])) ≡ false = ap (λ qs. (taken == 0) && all_stay qs) (sym s) ∙ go in
      ap (among_bytes w taken) s ∙ among_parts w taken ps p ∙ ap (λ b. if b then [] else frame_bytes (min taken 1) (ps ++ ending w p ∷ [])) goes ∙ frame_split w (min taken 1) ps p
      ∙ ap (λ m. move_bytes UP (m - 1 + min taken 1) ++ (walk_bytes 0 ps ++ last_bytes w (walk_down 0 ps) p)) (sym all_height)

-- more bytes behind a changed line
pub changed_more : (down rows : ℕ) (line more : List ℕ) → changed_bytes down rows (line ++ more) ≡ changed_bytes down rows line ++ more
changed_more down rows line more =
    let a = move_bytes DOWN down in
    let b = emptied_bytes rows in
    ap (λ x. a ++ x) (sym (append_assoc b line more)) ∙ sym (append_assoc a (b ++ line) more)
