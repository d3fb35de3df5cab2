-- Calls one after another whose rows the program ends, from the first on.
use Rattle.std.proofs.Common.{◌≡◌, ◌∙◌, ℕ, zero, suc, ◌+◌, ◌<◌, ◌≤◌, ◌^◌, true, List, [], ◌∷◌, ◌++◌, take, refl, sym, ap, subst, arith, map, None, Result, Ok, Err, min, inl}
use Rattle.std.specs.Prelude.{IsTrue, chars}
use Rattle.std.specs.List.{AllByRecursion}
use Rattle.std.specs.Str.{IsUtf8}
use Rattle.std.specs.declared.io.Error.{Error}
use Rattle.std.proofs.lemmas.Bool.{false≢true}
use Rattle.std.proofs.lemmas.List.{length-replicate}
use Rattle.indicatif_text.specs.Columns.{is_plain, visible, blank_row}
use Rattle.indicatif_term.specs.Screen.{Screen, Op, Put, LineFeed, Up, performed, blank_screen}
use Rattle.indicatif_term.specs.Inside.Scanners.{performed_all}
use Rattle.indicatif_term.specs.Terminal.{GREATEST, after}
use Rattle.indicatif_term.specs.Calls.{TermView, move_bytes, line_bytes, clear_bytes}
use Rattle.indicatif_term.specs.Shows.{resting}
use Rattle.indicatif_term.specs.Modes.{ModeTerminal, mode_resting, step_by, mode_after, ModeRowsStay}
use Rattle.indicatif_term.specs.OwnRows.{new_rows, as_written}
use Rattle.indicatif_term.specs.EndedRows.{screen_after, BeginBelow, HasCursor, Together, Draws, RowsDraw, RowsTogether, BeginOn, RowsStand}
use Rattle.indicatif_term.specs.Inside.EndedRows.{StayAlong, all_put}
use Rattle.indicatif_term.specs.declared.target.ended_rows.EndedRows.{EndedRows}
use Rattle.indicatif_term.specs.declared.target.own_rows.Rows.{Rows}
use Rattle.indicatif_term.specs.declared.target.own_rows.Rows.TheVariants.{Left, Ended}
use Rattle.indicatif_term.proofs.CursorRowLemmas.{IsBelow}
use Rattle.indicatif_term.proofs.RowsAboveLemmas.{IsLevel, stays_done, stays_with_row, puts_only}
use Rattle.indicatif_term.proofs.CallLemmas.{after_asks, up_asks}
use Rattle.indicatif_term.proofs.CallTurnLemmas.{told_then, led_on-nil}
use Rattle.indicatif_term.proofs.ModeLemmas.{mode_after-append, stay_both, stay_by_place}
use Rattle.indicatif_term.proofs.EndedTextLemmas.{line_after, text_after, cleared_after, plain_visible}

-- ---- rows that stand, by places and one byte after another

take_none : (xs : List ℕ) → take 0 xs ≡ []
take_none [] = refl
take_none (x ∷ xs) = refl

along_by_place : (n : ℕ) (m : ModeTerminal) (bytes : List ℕ) → ModeRowsStay n m bytes → StayAlong n m bytes
along_by_place n m [] h = tt
along_by_place n m (b ∷ bytes) h =
    let next = step_by m.private_number m b in
    let first : take n next.terminal.screen.rows ≡ take n m.terminal.screen.rows = ap (λ bs. take n (mode_after next bs).terminal.screen.rows) (sym (take_none bytes)) ∙ h 1 in
    (first, along_by_place n next bytes (λ k. h (suc k) ∙ sym first))

stand_both : (n : ℕ) (m : ModeTerminal) (xs ys : List ℕ) → ModeRowsStay n m xs → ModeRowsStay n (mode_after m xs) ys → ModeRowsStay n m (xs ++ ys)
stand_both n m xs ys h k = stay_by_place n m (xs ++ ys) (stay_both n m xs ys (along_by_place n m xs h) (along_by_place n (mode_after m xs) ys k))

-- ---- calls in two parts

screen_after-append : (s : Screen) (xs ys : List (List ℕ)) → screen_after s (xs ++ ys) ≡ screen_after (screen_after s xs) ys
screen_after-append s [] ys = refl
screen_after-append s (x ∷ xs) ys = screen_after-append (after (resting s) x).screen xs ys

begin_parts : (n : ℕ) (s : Screen) (xs ys : List (List ℕ)) → BeginBelow n s (xs ++ ys) → BeginBelow n s xs × BeginBelow n (screen_after s xs) ys
begin_parts n s [] ys h = (tt, h)
begin_parts n s (x ∷ xs) ys h = let parts = begin_parts n (after (resting s) x).screen xs ys h.1 in ((h.0, parts.0), parts.1)

module _ {T : Type 0} (view : T → TermView) where
  none_draw : (own : EndedRows T) → Draws view [] own own (Ok tt)
  none_draw own = record {
    bytes = [];
    told_is = λ x. sym (led_on-nil (view own.term).told);
    stays = λ s m x n below. stay_by_place n m [] tt;
    goes_on = λ ok s m x. x;
  }

  then_draw : {a b c : EndedRows T} (xs ys : List (List ℕ)) (r : Result Unit Error) → Draws view xs a b (Ok tt) → Draws view ys b c r → Draws view (xs ++ ys) a c r
  then_draw {a = a} {b = b} {c = c} xs ys r p q = record {
    bytes = p.bytes ++ q.bytes;
    told_is = told_then p.bytes q.bytes (view a.term).told (view b.term).told (view c.term).told p.told_is q.told_is;
    stays = λ s m x n below.
        let parts = begin_parts n s xs ys below in
        stand_both n m p.bytes q.bytes (p.stays s m x n parts.0) (q.stays (screen_after s xs) (mode_after m p.bytes) (p.goes_on refl s m x) n parts.1);
    goes_on = λ ok s m x.
        subst (λ u. Together view c u (mode_after m (p.bytes ++ q.bytes))) (sym (screen_after-append s xs ys))
        (subst (Together view c (screen_after (screen_after s xs) ys)) (sym (mode_after-append m p.bytes q.bytes))
        (q.goes_on ok (screen_after s xs) (mode_after m p.bytes) (p.goes_on refl s m x)));
  }

  broken_draw : {a b : EndedRows T} (xs ys : List (List ℕ)) (e : Error) → Draws view xs a b (Err e) → Draws view (xs ++ ys) a b (Err e)
  broken_draw xs ys e p = record {
    bytes = p.bytes;
    told_is = p.told_is;
    stays = λ s m x n below. p.stays s m x n (begin_parts n s xs ys below).0;
    goes_on = λ ok. absurd (false≢true ok);
  }

  -- ---- the same of rows, ended by the program or left to the terminal

  pub none_rows : (rows : Rows T) → RowsDraw view [] rows rows (Ok tt)
  none_rows (Left term) = tt
  none_rows (Ended own) = none_draw own

  pub then_rows : (xs ys : List (List ℕ)) (r : Result Unit Error) (a b c : Rows T) → RowsDraw view xs a b (Ok tt) → RowsDraw view ys b c r → RowsDraw view (xs ++ ys) a c r
  then_rows xs ys r (Left a) (Left b) (Left c) p q = tt
  then_rows xs ys r (Ended a) (Ended b) (Ended c) p q = then_draw xs ys r p q
  then_rows xs ys r (Left a) (Left b) (Ended c) p q = absurd q
  then_rows xs ys r (Left a) (Ended b) (Left c) p q = absurd p
  then_rows xs ys r (Left a) (Ended b) (Ended c) p q = absurd p
  then_rows xs ys r (Ended a) (Left b) (Left c) p q = absurd p
  then_rows xs ys r (Ended a) (Left b) (Ended c) p q = absurd p
  then_rows xs ys r (Ended a) (Ended b) (Left c) p q = absurd q

  pub broken_rows : (xs ys : List (List ℕ)) (e : Error) (a b : Rows T) → RowsDraw view xs a b (Err e) → RowsDraw view (xs ++ ys) a b (Err e)
  broken_rows xs ys e (Left a) (Left b) p = tt
  broken_rows xs ys e (Ended a) (Ended b) p = broken_draw xs ys e p
  broken_rows xs ys e (Left a) (Ended b) p = absurd p
  broken_rows xs ys e (Ended a) (Left b) p = absurd p

  -- ---- where rows begin

  pub new_together : (term : T) (s real : Screen) → BeginOn view term s real → Together view (new_rows term None) s (mode_resting true real)
  new_together term s real h = record {
    real = real;
    real_is = refl;
    same = h.same;
    columns = h.columns;
    small = h.small;
    column = h.front;
    within = omega (arith, h.front);
    some_columns = h.some_columns;
    not_waiting = λ e. absurd (false≢true (sym e));
    at_front = λ e. refl;
    alone = refl;
    known = inl refl;
  }

  -- how a drawing is shown makes no difference
  pub written_together : (rows : Rows T) (s : Screen) (m : ModeTerminal) → RowsTogether view rows s m → RowsTogether view (as_written rows) s m
  written_together (Left term) s m x = absurd x
  written_together (Ended own) s m x = record {
    real = x.real;
    real_is = x.real_is;
    same = x.same;
    columns = x.columns;
    small = x.small;
    column = x.column;
    within = x.within;
    some_columns = x.some_columns;
    not_waiting = x.not_waiting;
    at_front = x.at_front;
    alone = x.alone;
    known = x.known;
  }

  pub fresh_begin : (term : T) (rows columns : ℕ) → 0 < rows → 0 < columns → (view term).columns ≤ GREATEST → BeginOn view term (blank_screen rows (view term).columns) (blank_screen rows columns)
  fresh_begin term rows columns some wide small = record {
    same = record {
      count = length-replicate rows (blank_row columns) ∙ sym (length-replicate rows (blank_row (view term).columns));
      height = refl;
      row = refl;
      in_rows = omega (arith, length-replicate rows (blank_row columns));
      window = some;
    };
    columns = refl;
    small = small;
    front = refl;
    some_columns = wide;
  }

  pub rows_stand : (calls : List (List ℕ)) (term : T) (rows : Rows T) (r : Result Unit Error) → RowsDraw view calls (Ended (new_rows term None)) rows r →
      RowsStand view calls term (record { rows = rows })
  rows_stand calls term (Left other) r p = absurd p
  rows_stand calls term (Ended own) r p = record {
    bytes = p.bytes;
    told_is = p.told_is;
    stays = λ s real h n below. p.stays s (mode_resting true real) (new_together term s real h) n below;
  }

-- ---- how far a call leads

is_below : (s : Screen) → HasCursor s → IsBelow s.row s
is_below s h = record { below = omega arith; in_rows = h.in_rows; window = h.window }

stays_all : (n : ℕ) (ops : List Op) (s : Screen) → AllByRecursion IsLevel ops → IsBelow n s → IsBelow n (performed_all ops s)
stays_all n [] s level h = h
stays_all n (op ∷ ops) s level h = stays_all n ops (performed op s) level.1 (stays_done n s op h level.0).below

put_below : (n : ℕ) (cs : List ℕ) (s : Screen) → IsBelow n s → IsBelow n (all_put cs s)
put_below n cs s h = stays_all n (map (λ c. Put c) cs) s (puts_only cs) h

cursor_below : (n : ℕ) (s : Screen) → IsBelow n s → HasCursor s × (n ≤ s.row)
cursor_below n s h = (record { in_rows = h.in_rows; window = h.window }, h.below)

pub line_leads : (s : Screen) (text : List ℕ) → HasCursor s → IsUtf8 text → IsTrue (is_plain (chars text)) →
    let next = (after (resting s) (line_bytes text)).screen in HasCursor next × (s.row + 1 ≤ next.row)
line_leads s text h utf8 plain =
    let shown = plain_visible (chars text) plain in
    let put = put_below s.row (visible (chars text)) s (is_below s h) in
    let at : Screen = record (all_put (visible (chars text)) s) { column = 0 } in
    let front : IsBelow s.row at = record { below = put.below; in_rows = put.in_rows; window = put.window } in
    let fed = (stays_done s.row at LineFeed front tt).below in
    subst (λ t. HasCursor t.screen × (s.row + 1 ≤ t.screen.row)) (sym (line_after text s utf8 shown))
    (record { in_rows = fed.in_rows; window = fed.window }, omega (arith, put.below))

pub text_leads : (s : Screen) (text : List ℕ) → HasCursor s → IsUtf8 text → IsTrue (is_plain (chars text)) →
    let next = (after (resting s) text).screen in HasCursor next × (s.row ≤ next.row)
text_leads s text h utf8 plain =
    subst (λ t. HasCursor t.screen × (s.row ≤ t.screen.row)) (sym (text_after text s utf8 (plain_visible (chars text) plain)))
    (cursor_below s.row (all_put (visible (chars text)) s) (put_below s.row (visible (chars text)) s (is_below s h)))

pub clear_leads : (s : Screen) → HasCursor s → let next = (after (resting s) clear_bytes).screen in HasCursor next × (next.row ≡ s.row)
clear_leads s h =
    let at : Screen = record s { column = 0 } in
    let emptied = (stays_with_row s.row at (blank_row s.columns) (record { below = omega arith; in_rows = h.in_rows; window = h.window })).below in
    subst (λ t. HasCursor t.screen × (t.screen.row ≡ s.row)) (sym (cleared_after s)) (record { in_rows = emptied.in_rows; window = emptied.window }, refl)

up_some : (s : Screen) (n : ℕ) → 0 < n → n < 2 ^ 64 → HasCursor s → let next = (after (resting s) (move_bytes 0x41 n)).screen in HasCursor next × (s.row ≤ next.row + n)
up_some s n some small h =
    let k = min n GREATEST in
    subst (λ t. HasCursor t.screen × (s.row ≤ t.screen.row + n)) (sym (after_asks s (performed (Up k) s) (move_bytes 0x41 n) (Up k ∷ []) (up_asks n some small) refl))
    (record { in_rows = omega (arith, h.in_rows, h.window); window = h.window }, omega arith)

pub up_leads : (s : Screen) (n : ℕ) → n < 2 ^ 64 → HasCursor s → let next = (after (resting s) (move_bytes 0x41 n)).screen in HasCursor next × (s.row ≤ next.row + n)
unfolding after
up_leads s zero small h = (h, omega arith)
up_leads s (suc n) small h = up_some s (suc n) (omega arith) small h
