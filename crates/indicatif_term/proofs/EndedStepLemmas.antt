-- What the bytes of each step lead to: the terminal that gets the calls as any does, and the real one, of any width.
use Rattle.std.proofs.Common.{◌≡◌, ◌∙◌, ℕ, ◌+◌, ◌-◌, ◌<◌, ◌≤◌, Bool, true, false, List, [], ◌∷◌, ◌++◌, length, refl, sym, ap, subst, arith, map, sum_by, eqb, Option, Some, None, Result, max, inl, inr}
use Rattle.std.specs.Prelude.{unwrap_or, codes, IsTrue, IsFalse, nat_lt, nat_le, is_some, if◌then◌else◌}
use Rattle.std.specs.List.{AllByRecursion}
use Rattle.std.specs.declared.io.Error.{Error}
use Rattle.std.proofs.lemmas.Bool.{cond_both, cases_Bool, false≢true, ltb-true, ltb-false, le-leb, lt-leb, lt-ltb, le-ltb, eqb-true, ne_eqb}
use Rattle.std.proofs.lemmas.List.{length-set, length-append}
use Rattle.std.proofs.lemmas.List.Sums.{sum_by-cons}
use Rattle.unicode_width.specs.Width.{char_width}
use Rattle.indicatif_text.specs.Columns.{Cell, blank_row, width_of}
use Rattle.indicatif_term.specs.Screen.{Screen, Op, Put, Right, performed, put_sized, put_joiner, put_wide, put_here, with_row, line_feed}
use Rattle.indicatif_term.specs.Terminal.{idle}
use Rattle.indicatif_term.specs.Calls.{TermView, Writes}
use Rattle.indicatif_term.specs.Modes.{ModeTerminal, mode_resting, mode_after, performed_with, put_over, within_row, HasNoOwn}
use Rattle.indicatif_term.specs.Inside.Scanners.{all_with}
use Rattle.indicatif_term.specs.EndedRows.{is_between, SameRows}
use Rattle.indicatif_term.specs.Inside.EndedRows.{StayAlong, Meets, Held, Within, at_column, next_front, front_emptied, with_room, all_put, AreShown, WithinRoom, Falls, moved_place, opening_bytes, closing_bytes}
use Rattle.indicatif_term.specs.declared.target.ended_rows.EndedRows.{EndedRows}
use Rattle.indicatif_term.specs.declared.target.ended_rows.Phase.{Phase}
use Rattle.indicatif_term.specs.declared.target.ended_rows.Phase.TheVariants.{Drawing, Edge, Resting, Waiting}
use Rattle.indicatif_term.specs.declared.target.ended_rows.Shown.{Shown}
use Rattle.indicatif_term.specs.declared.target.ended_rows.Shown.TheVariants.{AtOnce, AsWritten}
use Rattle.indicatif_term.proofs.CallLemmas.{Asks}
use Rattle.indicatif_term.proofs.RowsAboveLemmas.{IsLevel}
use Rattle.indicatif_term.proofs.ModeLemmas.{asked_with, level_along, level_row, private_after, private_stays}
use Rattle.indicatif_term.proofs.EndedRowLemmas.{sends}

-- ---- two screens with the same rows

pub same_with_row : (s real : Screen) (r r' : List Cell) → SameRows s real → SameRows (with_row s r) (with_row real r')
same_with_row s real r r' h = record {
  count = length-set real.rows real.row r' ∙ h.count ∙ sym (length-set s.rows s.row r);
  height = h.height;
  row = h.row;
  in_rows = omega (arith, length-set real.rows real.row r', h.in_rows);
  window = h.window;
}

pub same_columns : (s real : Screen) (c c' : ℕ) → SameRows s real → SameRows (at_column c s) (at_column c' real)
same_columns s real c c' h = record { count = h.count; height = h.height; row = h.row; in_rows = h.in_rows; window = h.window }

pub same_left : (s real : Screen) (r : List Cell) → SameRows s real → SameRows (with_row s r) real
same_left s real r h = record { count = h.count ∙ sym (length-set s.rows s.row r); height = h.height; row = h.row; in_rows = h.in_rows; window = h.window }

fed_count : (s : Screen) → s.row < length s.rows → length (line_feed s).rows ≡ max (length s.rows) (s.row + 2)
fed_count s low = cond_both (nat_lt (s.row + 1) (length s.rows)) s.rows (s.rows ++ blank_row s.columns ∷ []) (λ rows. length rows ≡ max (length s.rows) (s.row + 2))
    (λ e. omega (arith, ltb-true (s.row + 1) (length s.rows) e))
    (λ e. omega (arith, ltb-false (s.row + 1) (length s.rows) e, length-append s.rows (blank_row s.columns ∷ [])))

pub same_feed : (s real : Screen) → SameRows s real → SameRows (line_feed s) (line_feed real)
same_feed s real h =
    let a = fed_count s (omega (arith, h.row, h.count, h.in_rows)) in
    let b = fed_count real h.in_rows in
    record {
      count = omega (arith, a, b, h.count, h.row);
      height = h.height;
      row = ap (λ k. k + 1) h.row;
      in_rows = omega (arith, b);
      window = h.window;
    }

-- ---- a character that has room

-- what a screen is after a step beside what the other one is
pub record Fits (s real s' real' : Screen) (column : ℕ) : Type 0 where
  pub same : SameRows s' real'
  pub columns : s'.columns ≡ s.columns
  pub real_columns : real'.columns ≡ real.columns
  pub at : s'.column ≡ column
  pub within : s'.column ≤ s'.columns
  pub not_waiting : real'.column < real'.columns

-- what is known of both before
pub record Ready (s real : Screen) : Type 0 where
  pub same : SameRows s real
  pub within : s.column ≤ s.columns
  pub not_waiting : real.column < real.columns

-- what is put over the end of a row of the real one
over_fits : (c w : ℕ) (s real : Screen) (r : List Cell) → Ready s real → s.column + w ≤ s.columns → Fits s real (record (with_row s r) { column = s.column + w }) (put_over c w real) (s.column + w)
over_fits c w s real r h room = cond_both (nat_lt real.columns w) real _ (λ real'. Fits s real (record (with_row s r) { column = s.column + w }) real' (s.column + w))
    (λ e. record {
      same = same_columns (with_row s r) real (s.column + w) real.column (same_left s real r h.same);
      columns = refl;
      real_columns = refl;
      at = refl;
      within = room;
      not_waiting = h.not_waiting;
    })
    (λ e. record {
      same = same_columns (with_row s r) (with_row real _) (s.column + w) _ (same_with_row s real r _ h.same);
      columns = refl;
      real_columns = refl;
      at = refl;
      within = room;
      not_waiting = omega (arith, h.not_waiting);
    })

wide_fits : (c w : ℕ) (s real : Screen) → Ready s real → s.column + w ≤ s.columns → Fits s real (put_wide c w s) (put_over c w real) (s.column + w)
wide_fits c w s real h room =
    let narrow : nat_lt s.columns w ≡ false = le-ltb s.columns w (omega arith) in
    let here : nat_le (s.column + w) s.columns ≡ true = le-leb (s.column + w) s.columns room in
    rw (narrow, here) (over_fits c w s real _ h room)

-- a joiner stays in its row
joiner_fits : (c : ℕ) (s real : Screen) → Ready s real → Fits s real (put_joiner c s) (put_joiner c real) (s.column + 0)
joiner_fits c s real h = record {
  same = same_with_row s real _ _ h.same;
  columns = refl;
  real_columns = refl;
  at = omega arith;
  within = h.within;
  not_waiting = h.not_waiting;
}

sized_fits : (c w : ℕ) (b : Bool) (s real : Screen) → eqb w 0 ≡ b → Ready s real → s.column + w ≤ s.columns →
    Fits s real (if b then put_joiner c s else put_wide c w s) (if b then put_joiner c real else put_over c w real) (s.column + w)
sized_fits c w true s real e h room = subst (λ k. Fits s real (put_joiner c s) (put_joiner c real) (s.column + k)) (sym (eqb-true w 0 e)) (joiner_fits c s real h)
sized_fits c w false s real e h room = wide_fits c w s real h room

pub put_fits : (c w : ℕ) (s real : Screen) → char_width false c ≡ Some w → Ready s real → s.column + w ≤ s.columns →
    Fits s real (performed (Put c) s) (performed_with false (Put c) real) (s.column + w)
put_fits c w s real e h room = rw e (sized_fits c w (eqb w 0) s real refl h room)

-- what both are ready for next
pub ready_again : (s real s' real' : Screen) (column : ℕ) → Fits s real s' real' column → Ready s' real'
ready_again s real s' real' column f = record { same = f.same; within = f.within; not_waiting = f.not_waiting }

some_shown : (o : Option ℕ) → is_some o ≡ true → o ≡ Some (unwrap_or o 0)
some_shown None e = absurd (false≢true e)
some_shown (Some w) e = refl

pub shown_width : (c : ℕ) → is_some (char_width false c) ≡ true → char_width false c ≡ Some (width_of c)
shown_width c e = some_shown (char_width false c) e

fits_then : (s real s' real' s'' real'' : Screen) (a b : ℕ) → Fits s real s' real' a → Fits s' real' s'' real'' b → Fits s real s'' real'' b
fits_then s real s' real' s'' real'' a b f g = record {
  same = g.same;
  columns = g.columns ∙ f.columns;
  real_columns = g.real_columns ∙ f.real_columns;
  at = g.at;
  within = g.within;
  not_waiting = g.not_waiting;
}

pub chars_fit : (cs : List ℕ) (s real : Screen) → AreShown cs → Ready s real → s.column + sum_by width_of cs ≤ s.columns →
    Fits s real (all_put cs s) (all_with false (map (λ c. Put c) cs) real) (s.column + sum_by width_of cs)
chars_fit [] s real all h room = record { same = h.same; columns = refl; real_columns = refl; at = omega arith; within = h.within; not_waiting = h.not_waiting }
chars_fit (c ∷ cs) s real all h room =
    let more : sum_by width_of (c ∷ cs) ≡ width_of c + sum_by width_of cs = sum_by-cons width_of c cs in
    let first = put_fits c (width_of c) s real (shown_width c all.0) h (omega (arith, more)) in
    let s' = performed (Put c) s in
    let real' = performed_with false (Put c) real in
    let rest = chars_fit cs s' real' all.1 (ready_again s real s' real' (s.column + width_of c) first) (omega (arith, more, first.at, first.columns)) in
    subst (Fits s real (all_put cs s') (all_with false (map (λ c. Put c) cs) real')) (omega (arith, more, first.at))
    (fits_then s real s' real' (all_put cs s') _ (s.column + width_of c) (s'.column + sum_by width_of cs) first rest)

-- ---- a character that has none: it begins the next row

put_there : (c w : ℕ) (s : Screen) → eqb w 0 ≡ false → nat_lt s.columns w ≡ false → nat_le (s.column + w) s.columns ≡ true →
    put_sized c (Some w) s ≡ put_here (record { base = c; joiners = [] }) w s
put_there c w s some narrow room = rw (some, narrow, room) refl

put_next : (c w : ℕ) (s : Screen) → eqb w 0 ≡ false → nat_lt s.columns w ≡ false → nat_le (s.column + w) s.columns ≡ false →
    put_sized c (Some w) s ≡ put_here (record { base = c; joiners = [] }) w (next_front s)
put_next c w s some narrow past = rw (some, narrow, past) refl

pub with_room_put : (c w : ℕ) (s : Screen) → char_width false c ≡ Some w → w ≤ s.columns → s.column ≤ s.columns → performed (Put c) (with_room w s) ≡ performed (Put c) s
with_room_put c w s e fits within = elim (cases_Bool (nat_lt (s.columns - s.column) w)) [
  | inl none ↦
      let lack : s.columns - s.column < w = ltb-true (s.columns - s.column) w none in
      let some : eqb w 0 ≡ false = ne_eqb w 0 (λ z. omega (arith, lack)) in
      let narrow : nat_lt s.columns w ≡ false = le-ltb s.columns w fits in
      let past : nat_le (s.column + w) s.columns ≡ false = lt-leb (s.column + w) s.columns (omega (arith, lack)) in
      ap (λ b. performed (Put c) (if b then next_front s else s)) none
      ∙ ap (λ o. put_sized c o (next_front s)) e ∙ put_there c w (next_front s) some narrow (le-leb (0 + w) s.columns (omega (arith, fits)))
      ∙ sym (ap (λ o. put_sized c o s) e ∙ put_next c w s some narrow past)
  | inr room ↦ ap (λ b. performed (Put c) (if b then next_front s else s)) room
]

-- a character wider than a row changes nothing
pub too_wide : (c w : ℕ) (s : Screen) → char_width false c ≡ Some w → s.columns < w → performed (Put c) s ≡ s
too_wide c w s e wide = rw (e, ne_eqb w 0 (λ z. omega arith), lt-ltb s.columns w wide) refl

-- ---- the two terminals

-- what bytes ask that are read as any terminal reads them, and lead up no row
pub record Said (bytes : List ℕ) (ops : List Op) : Type 0 where
  pub quiet : HasNoOwn idle bytes
  pub asks : Asks bytes ops
  pub level : AllByRecursion IsLevel ops

module _ {T : Type 0} (view : T → TermView) where
  -- what of the program's own stands as it was, and what the terminal tells
  pub record Unchanged (own own' : EndedRows T) : Type 0 where
    pub columns : (view own'.term).columns ≡ (view own.term).columns
    pub faults : (view own'.term).faults ≡ (view own.term).faults
    pub row : own'.row ≡ own.row
    pub known : own'.faults ≡ own.faults

  -- the two terminals after a step
  pub meets_again : {own own' : EndedRows T} {wraps held wraps' held' : Bool} {s : Screen} {m : ModeTerminal} (x : Meets view wraps held own s m) → Unchanged own own' →
      (s' real' : Screen) (m' : ModeTerminal) → m' ≡ mode_resting wraps' real' → SameRows s' real' → s'.columns ≡ s.columns → real'.columns ≡ x.real.columns →
      s'.column ≡ own'.column → s'.column ≤ s'.columns → (IsTrue held' → real'.column < real'.columns) → Meets view wraps' held' own' s' m'
  meets_again x u s' real' m' is same columns real_columns at within waits = record {
    real = real';
    real_is = is;
    same = same;
    columns = columns ∙ x.columns ∙ sym u.columns;
    small = omega (arith, columns, x.small);
    column = at;
    within = within;
    some_columns = omega (arith, real_columns, x.some_columns);
    not_waiting = waits;
    alone = u.row ∙ x.alone;
    known = u.known ∙ x.known ∙ sym u.faults;
  }

  module _ {own : EndedRows T} {wraps held : Bool} (bytes : List ℕ) (ops : List Op) (quiet : HasNoOwn idle bytes) (asks : Asks bytes ops) where
    pub asked : (s : Screen) (m : ModeTerminal) (x : Meets view wraps held own s m) → mode_after m bytes ≡ mode_resting wraps (all_with wraps ops x.real)
    asked s m x = ap (λ u. mode_after u bytes) x.real_is ∙ asked_with wraps x.real bytes ops quiet asks

    pub stays_asked : AllByRecursion IsLevel ops → (s : Screen) (m : ModeTerminal) → Meets view wraps held own s m → (n : ℕ) → n ≤ m.terminal.screen.row → StayAlong n m bytes
    stays_asked level s m x n low =
        let low_real : n ≤ x.real.row = omega (arith, low, ap (λ u. u.terminal.screen.row) x.real_is) in
        subst (λ u. StayAlong n u bytes) (sym x.real_is)
        (level_along n wraps x.real bytes ops quiet asks level (record { below = low_real; in_rows = x.same.in_rows; window = x.same.window }))

    pub level_asked : AllByRecursion IsLevel ops → (s : Screen) (m : ModeTerminal) → Meets view wraps held own s m → m.terminal.screen.row ≤ (mode_after m bytes).terminal.screen.row
    level_asked level s m x =
        omega (arith, ap (λ u. u.terminal.screen.row) x.real_is, ap (λ u. u.terminal.screen.row) (asked s m x), level_row wraps ops x.real level x.same.in_rows x.same.window)

  pub ready : {own : EndedRows T} {wraps : Bool} {s : Screen} {m : ModeTerminal} (x : Meets view wraps true own s m) → Ready s x.real
  ready x = record { same = x.same; within = x.within; not_waiting = x.not_waiting refl }

  -- what a step within a drawing leaves of what the program knows
  pub record Led (own own' : EndedRows T) (column : ℕ) : Type 0 where
    pub row : own'.row ≡ own.row
    pub known : own'.faults ≡ own.faults
    pub at : own'.column ≡ column
    pub drawing : IsFalse (is_between own.place) → IsFalse (is_between own'.place)

  -- bytes that are read as any terminal reads them, within a drawing
  pub acts : {own own' : EndedRows T} {P : EndedRows T → Screen → ModeTerminal → Type 0} (wraps : Bool) (column : ℕ) (f : Screen → Screen) (bytes : List ℕ) (ops : List Op) (r : Result Unit Error) →
      Led own own' column → Writes bytes (view own.term) (view own'.term) r →
      ((s : Screen) (m : ModeTerminal) → P own s m → Said bytes ops) → (within : (s : Screen) (m : ModeTerminal) → P own s m → Held view wraps own s m) →
      ((s : Screen) (m : ModeTerminal) (x : P own s m) → Fits s (within s m x).0.real (f s) (all_with wraps ops (within s m x).0.real) column) →
      Falls view P (Held view wraps) f own own' r
  acts {own = own} {own' = own'} {P = P} wraps column f bytes ops r led writes said within fits =
      let stay : (s : Screen) (m : ModeTerminal) → P own s m → (n : ℕ) → n ≤ m.terminal.screen.row → StayAlong n m bytes =
      λ s m x. let says = said s m x in stays_asked bytes ops says.quiet says.asks says.level s m (within s m x).0 in
      sends view bytes r writes
      (λ columns faults. record {
        stays = stay;
        level = λ s m x. let says = said s m x in level_asked bytes ops says.quiet says.asks says.level s m (within s m x).0;
        leads = λ s m x.
            let w = (within s m x).0 in
            let h = fits s m x in (
              meets_again w (record { columns = columns; faults = faults; row = led.row; known = led.known }) (f s) (all_with wraps ops w.real) (mode_after m bytes)
                  (asked bytes ops (said s m x).quiet (said s m x).asks s m w) h.same h.columns h.real_columns (h.at ∙ sym led.at) h.within (λ _. h.not_waiting),
              led.drawing (within s m x).1,
            );
      })
      stay

-- ---- what moves within a row, and to the next one

pub moved_drawing : (place : Phase) → IsFalse (is_between place) → IsFalse (is_between (moved_place place))
moved_drawing Drawing h = refl
moved_drawing Edge h = refl
moved_drawing Resting h = h
moved_drawing Waiting h = h

pub front_fits : (s real : Screen) → Ready s real → Fits s real (at_column 0 s) (at_column 0 real) 0
front_fits s real h = record {
  same = same_columns s real 0 0 h.same;
  columns = refl;
  real_columns = refl;
  at = refl;
  within = omega arith;
  not_waiting = omega (arith, h.not_waiting);
}

pub next_fits : (s real : Screen) → Ready s real → Fits s real (next_front s) (next_front real) 0
next_fits s real h = record {
  same = same_feed (at_column 0 s) (at_column 0 real) (same_columns s real 0 0 h.same);
  columns = refl;
  real_columns = refl;
  at = refl;
  within = omega arith;
  not_waiting = omega (arith, h.not_waiting);
}

pub emptied_fits : (s real : Screen) → Ready s real → Fits s real (front_emptied s) (front_emptied real) 0
emptied_fits s real h = record {
  same = same_with_row (at_column 0 s) (at_column 0 real) _ _ (same_columns s real 0 0 h.same);
  columns = refl;
  real_columns = refl;
  at = refl;
  within = omega arith;
  not_waiting = omega (arith, h.not_waiting);
}

pub right_fits : (n column : ℕ) (s real : Screen) → Ready s real → column ≤ s.columns → Fits s real (at_column column s) (performed (Right n) real) column
right_fits n column s real h fits = cond_both (eqb real.column real.columns) real _ (λ real'. Fits s real (at_column column s) real' column)
    (λ e. record { same = same_columns s real column real.column h.same; columns = refl; real_columns = refl; at = refl; within = fits; not_waiting = h.not_waiting })
    (λ e. record { same = same_columns s real column _ h.same; columns = refl; real_columns = refl; at = refl; within = fits; not_waiting = omega (arith, h.not_waiting) })

pub still_fits : (column : ℕ) (s real : Screen) → Ready s real → column ≤ s.columns → Fits s real (at_column column s) real column
still_fits column s real h fits = record {
  same = same_columns s real column real.column h.same;
  columns = refl;
  real_columns = refl;
  at = refl;
  within = fits;
  not_waiting = h.not_waiting;
}

-- ---- the wrap turned off and on

pub wrap_off : (real : Screen) → mode_after (mode_resting true real) (0x1B ∷ codes "[?7l") ≡ mode_resting false (within_row real)
wrap_off real = private_after true real (codes "7l")

pub wrap_on : (real : Screen) → mode_after (mode_resting false real) (0x1B ∷ codes "[?7h") ≡ mode_resting true real
wrap_on real = private_after false real (codes "7h")

pub opened : (shown : Shown) (real : Screen) → mode_after (mode_resting true real) (opening_bytes shown) ≡ mode_resting false (within_row real)
opened AtOnce real = private_after true real (codes "2026h" ++ 0x1B ∷ codes "[?7l") ∙ wrap_off real
opened AsWritten real = wrap_off real

pub closed : (shown : Shown) (real : Screen) → mode_after (mode_resting true real) (closing_bytes shown) ≡ mode_resting true real
closed AtOnce real = private_after true real (codes "2026l")
closed AsWritten real = refl

pub off_stays : (n : ℕ) (real : Screen) → StayAlong n (mode_resting true real) (0x1B ∷ codes "[?7l")
off_stays n real = private_stays true real n (codes "7l") (refl, (refl, tt))

pub on_stays : (n : ℕ) (real : Screen) → StayAlong n (mode_resting false real) (0x1B ∷ codes "[?7h")
on_stays n real = private_stays false real n (codes "7h") (refl, (refl, tt))

pub opening_stays : (n : ℕ) (shown : Shown) (real : Screen) → StayAlong n (mode_resting true real) (opening_bytes shown)
opening_stays n AtOnce real = private_stays true real n (codes "2026h" ++ 0x1B ∷ codes "[?7l") (refl, (refl, (refl, (refl, (refl, off_stays n real)))))
opening_stays n AsWritten real = off_stays n real

pub closing_stays : (n : ℕ) (shown : Shown) (real : Screen) → StayAlong n (mode_resting true real) (closing_bytes shown)
closing_stays n AtOnce real = private_stays true real n (codes "2026l") (refl, (refl, (refl, (refl, (refl, tt)))))
closing_stays n AsWritten real = tt

-- ---- what the program knows after a move within a drawing, and bytes that are sent

module _ {T : Type 0} (view : T → TermView) where
  pub led_by : {own mid own' : EndedRows T} {column : ℕ} → mid ≡ record own { column = column; place = moved_place own.place } →
      own' ≡ record mid { term = own'.term; sent = own'.sent } → Led view own own' column
  led_by {own = own} e k = record {
    row = ap (λ o. o.row) k ∙ ap (λ o. o.row) e;
    known = ap (λ o. o.faults) k ∙ ap (λ o. o.faults) e;
    at = ap (λ o. o.column) k ∙ ap (λ o. o.column) e;
    drawing = λ h. ap (λ o. is_between o.place) k ∙ ap (λ o. is_between o.place) e ∙ moved_drawing own.place h;
  }

  pub writes_from : (bytes : List ℕ) (v : TermView) (r : Result Unit Error) {mid own : EndedRows T} → mid ≡ own → Writes bytes (view mid.term) v r → Writes bytes (view own.term) v r
  writes_from bytes v r e w = subst (λ o. Writes bytes (view o.term) v r) e w

  pub led_of : {own own' : EndedRows T} {column : ℕ} → own'.row ≡ own.row → own'.faults ≡ own.faults → own'.column ≡ column → own'.place ≡ own.place → Led view own own' column
  led_of row known at place = record { row = row; known = known; at = at; drawing = λ h. ap is_between place ∙ h }

  -- where the row has no room for the columns, and where it has
  pub room_made : (wide : ℕ) {own own' : EndedRows T} {s : Screen} {m m' : ModeTerminal} → (view own.term).columns - own.column < wide → Within view own s m → Within view own' (next_front s) m' →
      WithinRoom view wide own' (with_room wide s) m'
  room_made wide {own' = own'} {s = s} {m' = m'} less x y =
      let lack : nat_lt (s.columns - s.column) wide ≡ true = lt-ltb (s.columns - s.column) wide (omega (arith, less, x.0.column, x.0.columns)) in
      subst (λ b. WithinRoom view wide own' (if b then next_front s else s) m') (sym lack) (y, λ fits. omega (arith, fits))

  pub room_there : (wide : ℕ) {own : EndedRows T} {s : Screen} {m : ModeTerminal} → wide ≤ (view own.term).columns - own.column → Within view own s m → WithinRoom view wide own (with_room wide s) m
  room_there wide {own = own} {s = s} {m = m} room x =
      let there : nat_lt (s.columns - s.column) wide ≡ false = le-ltb (s.columns - s.column) wide (omega (arith, room, x.0.column, x.0.columns)) in
      subst (λ b. WithinRoom view wide own (if b then next_front s else s) m) (sym there) (x, λ fits. omega (arith, room, x.0.column, x.0.columns, x.0.within))
