-- A text whose rows the program ends, character by character and piece by piece, and each call by what any terminal does.
use Rattle.std.proofs.Common.{◌≡◌, ◌∙◌, ℕ, zero, suc, ◌+◌, ◌-◌, ◌<◌, ◌≤◌, ◌^◌, Bool, true, false, List, [], ◌∷◌, ◌++◌, refl, sym, ap, subst, arith, map, sum_by, eqb, Result, Ok, Err, min, append-nil}
use lib.Pointwise.{pointwise}
use Rattle.std.specs.Prelude.{IsErrAnd, IsTrue, is_some, nat_lt, chars, if◌then◌else◌}
use Rattle.std.specs.List.{list_all}
use Rattle.std.specs.Str.{IsUtf8}
use Rattle.std.specs.declared.io.Error.{Error}
use Rattle.std.proofs.Math.Utf8.{scalar, scalars, encode, encodes}
use Rattle.std.proofs.lemmas.Bool.{cond_both, false≢true, and_parts, ltb-true, ltb-false, eqb-true, eqb-false, ne_eqb}
use Rattle.std.proofs.lemmas.List.{map-append}
use Rattle.std.proofs.lemmas.List.Sums.{sum_by-cons}
use Rattle.std.proofs.lemmas.Str.{encodes-chars, scalars-chars, chars-encodes}
use Rattle.unicode_width.specs.Width.{char_width}
use Rattle.indicatif_text.specs.Columns.{columns_of, visible, is_plain, width_of}
use Rattle.indicatif_text.specs.Pieces.{Colour, Run, text_piece}
use Rattle.indicatif_text.specs.declared.pieces.Piece.{Piece}
use Rattle.indicatif_text.specs.PieceLaws.{IsExact, run_text}
use Rattle.indicatif_term.specs.Screen.{Screen, Put, Left, Right, performed}
use Rattle.indicatif_term.specs.Inside.Scanners.{performed_all}
use Rattle.indicatif_term.specs.Terminal.{OutsideSequence, GREATEST, after}
use Rattle.indicatif_term.specs.Calls.{TermView, Writes, move_bytes, line_bytes, clear_bytes}
use Rattle.indicatif_term.specs.Shows.{resting}
use Rattle.indicatif_term.specs.Modes.{ModeTerminal, mode_after}
use Rattle.indicatif_term.specs.EndedRows.{Together, Draws}
use Rattle.indicatif_term.specs.Inside.EndedRows.{Meets, Within, WithinIf, WithinRoom, LeadsBoth, Falls, at_column, next_front, front_emptied, all_put, AreShown, right_column}
use Rattle.indicatif_term.specs.declared.target.ended_rows.EndedRows.{EndedRows}
use Rattle.indicatif_term.proofs.FeedLemmas.{performed_all-append, after-append}
use Rattle.indicatif_term.proofs.TextLemmas.{AsksToPut, reads}
use Rattle.indicatif_term.proofs.CallLemmas.{Asks, asks_chars, after_asks, end_asks, row_cleared}
use Rattle.indicatif_term.proofs.MoveLemmas.{right_asks, move_asks}
use Rattle.indicatif_term.proofs.ModeLemmas.{stay_by_place}
use Rattle.indicatif_term.proofs.EndedRowLemmas.{then_falls, from_weaker, to_weaker, fall_fails}
use Rattle.indicatif_term.proofs.EndedCallLemmas.{all_visible}

-- ---- texts

pub all_put_more : (cs ds : List ℕ) (s : Screen) → all_put (cs ++ ds) s ≡ all_put ds (all_put cs s)
all_put_more cs ds s = ap (λ ops. performed_all ops s) (map-append (λ c. Put c) cs ds) ∙ performed_all-append (map (λ c. Put c) cs) (map (λ c. Put c) ds) s

pub shown_append : (cs ds : List ℕ) → AreShown (cs ++ ds) → AreShown cs × AreShown ds
shown_append [] ds all = (tt, all)
shown_append (c ∷ cs) ds all = let h = shown_append cs ds all.1 in ((all.0, h.0), h.1)

same_list : (xs : List ℕ) → map (λ x. x) xs ≡ xs
same_list [] = refl
same_list (x ∷ xs) = ap (λ ys. x ∷ ys) (same_list xs)

-- a character of a text
pub shown_in : (all came : List ℕ) (c : ℕ) (rest : List ℕ) → all ≡ map (λ x. x) (came ++ c ∷ []) ++ rest → AreShown all → is_some (char_width false c) ≡ true
shown_in all came c rest e h =
    let front : AreShown (came ++ c ∷ []) = subst AreShown (same_list (came ++ c ∷ [])) (shown_append (map (λ x. x) (came ++ c ∷ [])) rest (subst AreShown e h)).0 in
    (shown_append came (c ∷ []) front).1.0

low_return : scalars (0x0D ∷ []) ≡ true
low_return = refl

pub return_hidden : (bytes : List ℕ) → bytes ≡ 0x0D ∷ [] → AreShown (chars bytes) → ⊥
unfolding encode char_width
return_hidden bytes e h =
    let is : chars bytes ≡ 0x0D ∷ [] = ap chars e ∙ chars-encodes (0x0D ∷ []) low_return in
    false≢true ((subst AreShown is h).0)

pub plain_shown : (cs : List ℕ) → list_all (λ c. is_some (char_width false c)) cs ≡ true → AreShown cs
plain_shown [] e = tt
plain_shown (c ∷ cs) e = let h = and_parts (is_some (char_width false c)) (list_all (λ c. is_some (char_width false c)) cs) e in (h.0, plain_shown cs h.1)

pub plain_visible : (cs : List ℕ) → IsTrue (is_plain cs) → AreShown (visible cs)
unfolding is_plain
plain_visible cs e = plain_shown (visible cs) e

plain_asks : (cs : List ℕ) → scalars cs ≡ true → AreShown (visible cs) → Asks (encodes cs) (map (λ c. Put c) (visible cs))
unfolding visible
plain_asks cs s all = let p : AsksToPut OutsideSequence cs (visible cs) = (reads cs).plain all in asks_chars cs (map (λ c. Put c) (visible cs)) s p.ops p.after

-- what any terminal does with a text
pub text_after : (text : List ℕ) (s : Screen) → IsUtf8 text → AreShown (visible (chars text)) → after (resting s) text ≡ resting (all_put (visible (chars text)) s)
text_after text s u all =
    let e = encodes-chars text u in
    subst (λ bytes. after (resting s) bytes ≡ resting (all_put (visible (chars text)) s)) e
    (after_asks s (all_put (visible (chars text)) s) (encodes (chars text)) (map (λ c. Put c) (visible (chars text))) (plain_asks (chars text) (scalars-chars text u) all) refl)

pub line_after : (text : List ℕ) (s : Screen) → IsUtf8 text → AreShown (visible (chars text)) → after (resting s) (line_bytes text) ≡ resting (next_front (all_put (visible (chars text)) s))
line_after text s u all =
    after-append (resting s) text (0x0D ∷ 0x0A ∷ []) ∙ ap (λ t. after t (0x0D ∷ 0x0A ∷ [])) (text_after text s u all)
    ∙ after_asks (all_put (visible (chars text)) s) (next_front (all_put (visible (chars text)) s)) (0x0D ∷ 0x0A ∷ []) _ end_asks refl

pub cleared_after : (s : Screen) → after (resting s) clear_bytes ≡ resting (front_emptied s)
cleared_after s = row_cleared s

-- ---- moves within a row

same_screen_at : (s : Screen) (b : Bool) (c k : ℕ) → (b ≡ true → c ≡ s.column) → (b ≡ false → c ≡ k) → ◌≡◌ {A = Screen} (at_column c s) (if b then s else record s { column = k })
same_screen_at s true c k e f = ap (λ n. at_column n s) (e refl)
same_screen_at s false c k e f = ap (λ n. at_column n s) (f refl)

right_is : (columns column n : ℕ) → column ≤ columns → 0 < n → columns ≤ GREATEST →
    (eqb column columns ≡ true → right_column columns column n ≡ column) × (eqb column columns ≡ false → right_column columns column n ≡ min (column + min n GREATEST) (columns - 1))
right_is columns column n within some small = (
  λ e. cond_both (nat_lt (columns - 1) column) column (min (min (column + n) (2 ^ 64 - 1)) (columns - 1)) (λ c. c ≡ column)
      (λ _. refl) (λ h. omega (arith, eqb-true column columns e, ltb-false (columns - 1) column h)),
  λ e. cond_both (nat_lt (columns - 1) column) column (min (min (column + n) (2 ^ 64 - 1)) (columns - 1)) (λ c. c ≡ min (column + min n GREATEST) (columns - 1))
      (λ h. absurd (eqb-false column columns e (omega (arith, ltb-true (columns - 1) column h))))
      (λ h. omega arith),
)

right_none : (columns column : ℕ) → column ≤ columns → columns ≤ GREATEST → right_column columns column 0 ≡ column
right_none columns column within small = cond_both (nat_lt (columns - 1) column) column (min (min (column + 0) (2 ^ 64 - 1)) (columns - 1)) (λ c. c ≡ column)
    (λ _. refl) (λ h. omega (arith, ltb-false (columns - 1) column h))

pub none_after : (s : Screen) → s ≡ (after (resting s) []).screen
unfolding after
none_after s = refl

pub right_after : (n : ℕ) (s : Screen) → n < 2 ^ 64 → s.column ≤ s.columns → s.columns ≤ GREATEST →
    at_column (right_column s.columns s.column n) s ≡ (after (resting s) (move_bytes 0x43 n)).screen
right_after zero s low within small = ap (λ c. at_column c s) (right_none s.columns s.column within small) ∙ none_after s
right_after (suc n) s low within small =
    let k = min (suc n) GREATEST in
    let is = right_is s.columns s.column (suc n) within (omega arith) small in
    same_screen_at s (eqb s.column s.columns) (right_column s.columns s.column (suc n)) (min (s.column + k) (s.columns - 1)) is.0 is.1
    ∙ sym (ap (λ t. t.screen) (after_asks s (performed (Right k) s) (move_bytes 0x43 (suc n)) (Right k ∷ []) (right_asks (suc n) (omega arith) low) refl))

some_move : (k : ℕ) → 0 < k → eqb (min k GREATEST) 0 ≡ false
some_move k some = ne_eqb (min k GREATEST) 0 (λ e. omega arith)

left_asks : (k : ℕ) → 0 < k → k < 2 ^ 64 → Asks (move_bytes 0x44 k) (Left (min k GREATEST) ∷ [])
left_asks k some low = subst (Asks (move_bytes 0x44 k)) (rw (some_move k some) refl) (move_asks 0x44 refl (omega arith) k some low)

pub left_after : (n : ℕ) (s : Screen) → n < 2 ^ 64 → s.column ≤ GREATEST → at_column (s.column - n) s ≡ (after (resting s) (move_bytes 0x44 n)).screen
left_after zero s low small = ap (λ c. at_column c s) (let e : s.column - 0 ≡ s.column = omega arith in e) ∙ none_after s
left_after (suc n) s low small =
    let k = min (suc n) GREATEST in
    ap (λ c. at_column c s) (let e : s.column - suc n ≡ s.column - k = omega arith in e)
    ∙ sym (ap (λ t. t.screen) (after_asks s (performed (Left k) s) (move_bytes 0x44 (suc n)) (Left k ∷ []) (left_asks (suc n) (omega arith) low) refl))

-- ---- one step after another

module _ {T : Type 0} (view : T → TermView) {X Y : Type 0} {f g : Screen → Screen} {a b d : EndedRows T} (r : Result Unit Error) where
  pub more : (X → Y) → Falls view (WithinIf view X) (WithinIf view X) f a b (Ok tt) → Falls view (WithinIf view Y) (Within view) g b d r →
      Falls view (WithinIf view X) (WithinIf view X) (λ s. g (f s)) a d r
  more h p q = then_falls view r p (to_weaker view r (λ s m m' x y. (y, x.1)) (from_weaker view r refl (λ s m x. (x.0, h x.1)) q))

-- ---- calls

module _ {T : Type 0} (view : T → TermView) {own own' : EndedRows T} (r : Result Unit Error) where
  pub draws_by : {f : Screen → Screen} (asked : List ℕ) → LeadsBoth view (Together view) (Together view) f own own' r →
      ((s : Screen) (m : ModeTerminal) → Together view own s m → f s ≡ (after (resting s) asked).screen) → Draws view (asked ∷ []) own own' r
  draws_by asked p is = record {
    bytes = p.bytes;
    told_is = p.told_is;
    stays = λ s m x n low. stay_by_place n m p.bytes (p.stays s m x n (omega (arith, low.0, ap (λ u. u.terminal.screen.row) x.real_is, x.same.row)));
    goes_on = λ ok s m x. subst (λ u. Together view own' u (mode_after m p.bytes)) (is s m x) (p.leads ok s m x);
  }

  -- where it fails nothing more is said
  pub draws_not : {Q : EndedRows T → Screen → ModeTerminal → Type 0} {f : Screen → Screen} {e : Error} (asked : List ℕ) → IsErrAnd r (λ x. x ≡ e) → Falls view (Together view) Q f own own' (Err e) →
      Draws view (asked ∷ []) own own' r
  draws_not asked failed p = draws_by asked (fall_fails view {Q' = Together view} {g = λ s. (after (resting s) asked).screen} r failed p).carries (λ s m x. refl)

-- a run of a text
pub run_shown : (front run rest : List ℕ) {all : List ℕ} → all ≡ front ++ (run ++ rest) → AreShown all → AreShown run
run_shown front run rest e h = (shown_append run rest (shown_append front (run ++ rest) (subst AreShown e h)).1).0

module _ {T : Type 0} (view : T → TermView) where
  pub right_there : (n : ℕ) {own : EndedRows T} {s : Screen} {m : ModeTerminal} {column : ℕ} → column ≡ right_column (view own.term).columns own.column n → n < 2 ^ 64 → Meets view false true own s m →
      at_column column s ≡ (after (resting s) (move_bytes 0x43 n)).screen
  right_there n {own = own} {s = s} e low x =
      ap (λ c. at_column c s) (e ∙ ap (λ k. right_column k own.column n) (sym x.columns) ∙ ap (λ k. right_column s.columns k n) (sym x.column)) ∙ right_after n s low x.within x.small

  pub right_fits_in : (n : ℕ) {own : EndedRows T} {s : Screen} {m : ModeTerminal} {column : ℕ} →
      column ≡ right_column (view own.term).columns own.column n → Meets view false true own s m → column ≤ s.columns
  right_fits_in n {own = own} {s = s} e x =
      subst (λ c. c ≤ s.columns) (sym e)
      (cond_both (nat_lt ((view own.term).columns - 1) own.column) own.column (min (min (own.column + n) (2 ^ 64 - 1)) ((view own.term).columns - 1)) (λ c. c ≤ s.columns)
      (λ _. omega (arith, x.column, x.within)) (λ _. omega (arith, x.columns)))

  pub left_there : (n : ℕ) {own : EndedRows T} {s : Screen} {m : ModeTerminal} {column : ℕ} → column ≡ own.column - n → n < 2 ^ 64 → Meets view false true own s m →
      at_column column s ≡ (after (resting s) (move_bytes 0x44 n)).screen
  left_there n {s = s} e low x = ap (λ c. at_column c s) (e ∙ ap (λ k. k - n) (sym x.column)) ∙ left_after n s low (omega (arith, x.within, x.small))

  pub left_fits_in : (n : ℕ) {own : EndedRows T} {s : Screen} {m : ModeTerminal} {column : ℕ} → column ≡ own.column - n → Meets view false true own s m → column ≤ s.columns
  left_fits_in n e x = omega (arith, e, x.column, x.within)

  -- a character that has room
  pub char_bytes : (c : ℕ) (u v : TermView) (r : Result Unit Error) {text : List ℕ} → text ≡ encode c → Writes text u v r → Writes (encodes (c ∷ [])) u v r
  char_bytes c u v r e w = subst (λ bs. Writes bs u v r) (e ∙ sym (append-nil (encode c))) w

  pub char_fits : (c : ℕ) {own : EndedRows T} {s : Screen} {m : ModeTerminal} {wide : ℕ} → wide ≡ width_of c → wide ≤ (view own.term).columns → WithinRoom view wide own s m →
      (wide ≡ sum_by width_of (c ∷ [])) × (s.column + wide ≤ s.columns)
  char_fits c e fits x = (e ∙ sym (sum_by-cons width_of c [] ∙ (let z : width_of c + 0 ≡ width_of c = omega arith in z)), x.1 (omega (arith, fits, x.0.0.columns)))

pub scalars_one : (c : ℕ) → scalar c ≡ true → scalars (c ∷ []) ≡ true
scalars_one c e = rw e refl

-- ---- pieces

-- a text of one character, as it is compared
pub one_text : (text : List ℕ) (c : ℕ) → pointwise eqb text (c ∷ []) ≡ true → text ≡ c ∷ []
one_text [] c e = absurd (false≢true e)
one_text (x ∷ []) c e = ap (λ y. y ∷ []) (eqb-true x c (and_parts (eqb x c) true e).0)
one_text (x ∷ y ∷ ys) c e = absurd (false≢true (and_parts (eqb x c) false e).1)

module _ {T : Type 0} (view : T → TermView) where
  pub text_bytes : (text : List ℕ) (u v : TermView) (r : Result Unit Error) → IsUtf8 text → Writes text u v r → Writes (encodes (chars text)) u v r
  text_bytes text u v r utf8 w = subst (λ bs. Writes bs u v r) (sym (encodes-chars text utf8)) w

  pub run_fits : (text : List ℕ) {own : EndedRows T} {s : Screen} {m : ModeTerminal} {wide : ℕ} → wide ≡ columns_of (chars text) → wide ≤ (view own.term).columns - own.column →
      WithinIf view (AreShown (chars text)) own s m → (wide ≡ sum_by width_of (chars text)) × (s.column + wide ≤ s.columns)
  run_fits text e room x =
      (e ∙ ap (sum_by width_of) (all_visible (chars text) x.1), omega (arith, room, x.0.0.column, x.0.0.columns, x.0.0.within))

  pub colour_piece : (piece : Piece) {own own' : EndedRows T} (r : Result Unit Error) → piece.colour ≡ true →
      Falls view (WithinIf view (IsExact (Colour (chars piece.text.now)))) (Within view) (λ s. s) own own' r →
      Falls view (WithinIf view (AreShown (run_text (text_piece piece)) × IsExact (text_piece piece))) (Within view) (all_put (run_text (text_piece piece))) own own' r
  colour_piece piece {own = own} {own' = own'} r is p =
      let cs = chars piece.text.now in
      let piece_is : text_piece piece ≡ Colour cs = ap (λ b. if b then Colour cs else Run cs) is in
      subst (λ q. Falls view (WithinIf view (AreShown (run_text q) × IsExact q)) (Within view) (all_put (run_text q)) own own' r) (sym piece_is)
      (from_weaker view r refl (λ s m x. (x.0, x.1.1)) p)

  pub return_piece : (piece : Piece) {own own' : EndedRows T} (r : Result Unit Error) → piece.colour ≡ false → piece.text.now ≡ 0x0D ∷ [] →
      Falls view (Within view) (Within view) (at_column 0) own own' r →
      Falls view (WithinIf view (AreShown (run_text (text_piece piece)) × IsExact (text_piece piece))) (Within view) (all_put (run_text (text_piece piece))) own own' r
  return_piece piece {own = own} {own' = own'} r is e p =
      let piece_is : text_piece piece ≡ Run (chars piece.text.now) = ap (λ b. if b then Colour (chars piece.text.now) else Run (chars piece.text.now)) is in
      to_weaker view r (λ s m m' x y. absurd (return_hidden piece.text.now e (subst (λ q. AreShown (run_text q)) piece_is x.1.0))) (from_weaker view r refl (λ s m x. x.0) p)

  pub run_piece : (piece : Piece) {own own' : EndedRows T} (r : Result Unit Error) → piece.colour ≡ false →
      Falls view (WithinIf view (AreShown (chars piece.text.now))) (Within view) (all_put (chars piece.text.now)) own own' r →
      Falls view (WithinIf view (AreShown (run_text (text_piece piece)) × IsExact (text_piece piece))) (Within view) (all_put (run_text (text_piece piece))) own own' r
  run_piece piece {own = own} {own' = own'} r is p =
      let piece_is : text_piece piece ≡ Run (chars piece.text.now) = ap (λ b. if b then Colour (chars piece.text.now) else Run (chars piece.text.now)) is in
      subst (λ q. Falls view (WithinIf view (AreShown (run_text q) × IsExact q)) (Within view) (all_put (run_text q)) own own' r) (sym piece_is)
      (from_weaker view r refl (λ s m x. (x.0, x.1.0)) p)
