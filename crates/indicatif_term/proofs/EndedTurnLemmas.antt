-- Where a drawing begins and ends: the wrap is turned off and on, and the cursor waits at the right edge.
use Rattle.std.proofs.Common.{◌≡◌, ◌∙◌, ℕ, zero, suc, ◌+◌, ◌<◌, ◌≤◌, ◌^◌, Bool, true, false, List, [], ◌∷◌, refl, sym, ap, subst, arith, eqb, Some, Result, Ok, min, inl, inr}
use Rattle.std.specs.Prelude.{IsTrue, IsFalse, nat_lt, nat_le, codes}
use Rattle.std.specs.declared.io.Error.{Error}
use Rattle.std.proofs.lemmas.Bool.{cond_both, false≢true, eqb-true, eqb-false, le-ltb, le-leb}
use Rattle.std.proofs.lemmas.List.{length-set}
use Rattle.unicode_width.specs.Width.{char_width}
use Rattle.indicatif_text.specs.Columns.{Cell, glyph_cells}
use Rattle.indicatif_term.specs.Screen.{Screen, Op, Put, Return, Right, performed, put_sized, put_here, with_row, written_at, cursor_row}
use Rattle.indicatif_term.specs.Terminal.{GREATEST}
use Rattle.indicatif_term.specs.Calls.{TermView, Writes, move_bytes}
use Rattle.indicatif_term.specs.Modes.{ModeTerminal, mode_resting, mode_after, performed_with, within_row, end_emptied}
use Rattle.indicatif_term.specs.Inside.Scanners.{all_with}
use Rattle.indicatif_term.specs.OwnRows.{first_place}
use Rattle.indicatif_term.specs.EndedRows.{is_between, SameRows, Together}
use Rattle.indicatif_term.specs.Inside.EndedRows.{StayAlong, Meets, Held, Within, Between, Ended, Falls, unfailed, drawn_place, opening_bytes, closing_bytes}
use Rattle.indicatif_term.specs.declared.target.ended_rows.EndedRows.{EndedRows}
use Rattle.indicatif_term.specs.declared.target.ended_rows.Phase.{Phase}
use Rattle.indicatif_term.specs.declared.target.ended_rows.Phase.TheVariants.{Drawing, Edge, Resting, Waiting}
use Rattle.indicatif_term.specs.declared.target.ended_rows.Shown.{Shown}
use Rattle.indicatif_term.proofs.MoveLemmas.{right_asks, return_asks, spaces_ask}
use Rattle.indicatif_term.proofs.ModeLemmas.{end_after, end_stays}
use Rattle.indicatif_term.proofs.EndedRowLemmas.{sends, stands, from_weaker, to_weaker, then_falls}
use Rattle.indicatif_term.proofs.EndedStepLemmas.{Unchanged, Said, meets_again, asked, stays_asked, level_asked, opened, closed, wrap_on, wrap_off, opening_stays, closing_stays, on_stays, off_stays}
use Rattle.indicatif_term.proofs.EndedCallLemmas.{no_asks, move_quiet}

-- the real one's cursor in another column
same_real : (s real : Screen) (c : ℕ) → SameRows s real → SameRows s (record real { column = c })
same_real s real c h = record { count = h.count; height = h.height; row = h.row; in_rows = h.in_rows; window = h.window }

same_written : (s real : Screen) (row : List Cell) → SameRows s real → SameRows s (with_row real row)
same_written s real row h = record {
  count = length-set real.rows real.row row ∙ h.count;
  height = h.height;
  row = h.row;
  in_rows = omega (arith, length-set real.rows real.row row, h.in_rows);
  window = h.window;
}

-- what is the same with the wrap on and off
return_with : (wraps : Bool) (s : Screen) → performed_with wraps Return s ≡ performed Return s
return_with true s = refl
return_with false s = refl

right_with : (wraps : Bool) (k : ℕ) (s : Screen) → performed_with wraps (Right k) s ≡ performed (Right k) s
right_with true k s = refl
right_with false k s = refl

blank_wide : char_width false 0x20 ≡ Some 1
unfolding char_width
blank_wide = refl

blank_here : (real : Screen) → nat_lt real.columns 1 ≡ false → nat_le (real.column + 1) real.columns ≡ true →
    put_sized 0x20 (Some 1) real ≡ put_here (record { base = 0x20; joiners = [] }) 1 real
blank_here real some room = rw (some, room) refl

blank_put : (real : Screen) → real.column < real.columns → performed (Put 0x20) real ≡ put_here (record { base = 0x20; joiners = [] }) 1 real
blank_put real h = ap (λ o. put_sized 0x20 o real) blank_wide ∙ blank_here real (le-ltb real.columns 1 (omega arith)) (le-leb (real.column + 1) real.columns (omega arith))

module _ {T : Type 0} (view : T → TermView) where
  -- ---- from one state of the program to one that knows the same

  pub meets_like : {own own' : EndedRows T} {wraps held : Bool} {s : Screen} {m : ModeTerminal} → own'.term ≡ own.term → own'.row ≡ own.row → own'.faults ≡ own.faults → own'.column ≡ own.column →
      Meets view wraps held own s m → Meets view wraps held own' s m
  meets_like e row known column x = record {
    real = x.real;
    real_is = x.real_is;
    same = x.same;
    columns = x.columns ∙ ap (λ t. (view t).columns) (sym e);
    small = x.small;
    column = x.column ∙ sym column;
    within = x.within;
    some_columns = x.some_columns;
    not_waiting = x.not_waiting;
    alone = row ∙ x.alone;
    known = known ∙ x.known ∙ ap (λ t. (view t).faults) (sym e);
  }

  is_resting_between : (p : Phase) → p ≡ Resting → is_between p ≡ false → ⊥
  is_resting_between p e h = false≢true (sym h ∙ ap is_between e)

  -- in a drawing
  pub together_within : {own : EndedRows T} {s : Screen} {m : ModeTerminal} → IsFalse (is_between own.place) → Together view own s m → Within view own s m
  together_within {own = own} drawing x = (
    record {
      real = x.real;
      real_is = x.real_is ∙ ap (λ wraps. mode_resting wraps x.real) drawing;
      same = x.same;
      columns = x.columns;
      small = x.small;
      column = x.column;
      within = x.within;
      some_columns = x.some_columns;
      not_waiting = λ _. x.not_waiting drawing;
      alone = x.alone;
      known = elim x.known [ inl e ↦ absurd (is_resting_between own.place e drawing) | inr e ↦ e ];
    },
    drawing,
  )

  pub within_together : {own : EndedRows T} {s : Screen} {m : ModeTerminal} → Within view own s m → Together view own s m
  within_together {own = own} (x, drawing) = record {
    real = x.real;
    real_is = x.real_is ∙ ap (λ wraps. mode_resting wraps x.real) (sym drawing);
    same = x.same;
    columns = x.columns;
    small = x.small;
    column = x.column;
    within = x.within;
    some_columns = x.some_columns;
    not_waiting = λ _. x.not_waiting refl;
    at_front = λ e. absurd (is_resting_between own.place e drawing);
    alone = x.alone;
    known = inr x.known;
  }

  -- between two drawings
  pub meets_together : {own : EndedRows T} {held : Bool} {s : Screen} {m : ModeTerminal} → IsTrue (is_between own.place) → (own.place ≡ Resting → own.column ≡ 0) → Meets view true held own s m →
      Together view own s m
  meets_together between front x = record {
    real = x.real;
    real_is = x.real_is ∙ ap (λ wraps. mode_resting wraps x.real) (sym between);
    same = x.same;
    columns = x.columns;
    small = x.small;
    column = x.column;
    within = x.within;
    some_columns = x.some_columns;
    not_waiting = λ h. absurd (false≢true (sym h ∙ between));
    at_front = front;
    alone = x.alone;
    known = inr x.known;
  }

  -- where a drawing begins
  pub together_opens : {own own' : EndedRows T} {s : Screen} {m : ModeTerminal} → own'.term ≡ own.term → own'.row ≡ own.row → own'.faults ≡ own.faults → own'.column ≡ own.column →
      IsTrue (is_between own.place) → own.faults ≡ (view own.term).faults → Together view own s m → Meets view true false own' s m
  together_opens e row known column between faults x = record {
    real = x.real;
    real_is = x.real_is ∙ ap (λ wraps. mode_resting wraps x.real) between;
    same = x.same;
    columns = x.columns ∙ ap (λ t. (view t).columns) (sym e);
    small = x.small;
    column = x.column ∙ sym column;
    within = x.within;
    some_columns = x.some_columns;
    not_waiting = λ h. absurd (false≢true h);
    alone = row ∙ x.alone;
    known = known ∙ faults ∙ ap (λ t. (view t).faults) (sym e);
  }

  -- where a call has failed
  pub record Forgotten (own own' : EndedRows T) (s : Screen) (m : ModeTerminal) : Type 0 where
    pub together : Together view own' s m
    pub known : own'.faults ≡ (view own'.term).faults

  fresh : {own : EndedRows T} {s : Screen} {m : ModeTerminal} → own.place ≡ Resting → Together view own s m →
      Together view (record own { faults = (view own.term).faults; place = first_place own.row; column = 0 }) s m
  fresh {own = own} resting x =
      let place : first_place own.row ≡ Resting = ap first_place x.alone in
      record {
        real = x.real;
        real_is = x.real_is ∙ ap (λ p. mode_resting (is_between p) x.real) (resting ∙ sym place);
        same = x.same;
        columns = x.columns;
        small = x.small;
        column = x.column ∙ x.at_front resting;
        within = x.within;
        some_columns = x.some_columns;
        not_waiting = λ h. absurd (is_resting_between (first_place own.row) place h);
        at_front = λ _. refl;
        alone = x.alone;
        known = inr refl;
      }

  pub forgotten : (own : EndedRows T) (s : Screen) (m : ModeTerminal) → Together view own s m → Forgotten own (unfailed view own) s m
  forgotten own s m x = cond_both (eqb (view own.term).faults own.faults) own (record own { faults = (view own.term).faults; place = first_place own.row; column = 0 }) (λ o. Forgotten own o s m)
      (λ e. record { together = x; known = sym (eqb-true (view own.term).faults own.faults e) })
      (λ e. record {
        together = fresh (elim x.known [ inl resting ↦ resting | inr known ↦ absurd (eqb-false (view own.term).faults own.faults e (sym known)) ]) x;
        known = refl;
      })

  pub forgotten_term : (own : EndedRows T) → (unfailed view own).term ≡ own.term
  forgotten_term own = cond_both (eqb (view own.term).faults own.faults) own (record own { faults = (view own.term).faults; place = first_place own.row; column = 0 }) (λ o. o.term ≡ own.term)
      (λ e. refl) (λ e. refl)

  -- ---- what is sent

  module _ {own own' : EndedRows T} (r : Result Unit Error) (kept : own' ≡ record own { term = own'.term; sent = own'.sent }) where
    pub unchanged : (view own'.term).columns ≡ (view own.term).columns → (view own'.term).faults ≡ (view own.term).faults → Unchanged view own own'
    unchanged columns faults = record { columns = columns; faults = faults; row = ap (λ o. o.row) kept; known = ap (λ o. o.faults) kept }

    -- bytes of a mode
    turns : {P Q : EndedRows T → Screen → ModeTerminal → Type 0} {before after held held' : Bool} (bytes : List ℕ) (to : Screen → Screen) →
        Writes bytes (view own.term) (view own'.term) r →
        (meets : (s : Screen) (m : ModeTerminal) → P own s m → Meets view before held own s m) →
        ((s : Screen) (m : ModeTerminal) → P own s m → Meets view after held' own' s (mode_after m bytes) → Q own' s (mode_after m bytes)) →
        ((real : Screen) → mode_after (mode_resting before real) bytes ≡ mode_resting after (to real)) →
        ((n : ℕ) (real : Screen) → n ≤ real.row → StayAlong n (mode_resting before real) bytes) →
        ((s real : Screen) → SameRows s real → SameRows s (to real)) → ((real : Screen) → (to real).columns ≡ real.columns) →
        ((s : Screen) (m : ModeTerminal) (x : P own s m) → IsTrue held' → (to (meets s m x).real).column < (meets s m x).real.columns) →
        Falls view P Q (λ s. s) own own' r
    turns {P = P} bytes to w meets next leads stay same columns_same waits =
        let along : (s : Screen) (m : ModeTerminal) → P own s m → (n : ℕ) → n ≤ m.terminal.screen.row → StayAlong n m bytes =
        λ s m x n low. let h = meets s m x in subst (λ u. StayAlong n u bytes) (sym h.real_is) (stay n h.real (omega (arith, low, ap (λ u. u.terminal.screen.row) h.real_is))) in
        sends view bytes r w (λ columns faults. record {
          stays = along;
          level = λ s m x.
              let h = meets s m x in
              let k = same s h.real h.same in
              omega (arith, ap (λ u. u.terminal.screen.row) h.real_is, ap (λ u. u.terminal.screen.row) (ap (λ u. mode_after u bytes) h.real_is ∙ leads h.real), k.row, h.same.row);
          leads = λ s m x.
              let h = meets s m x in
              next s m x (meets_again view h (unchanged columns faults) s (to h.real) (mode_after m bytes) (ap (λ u. mode_after u bytes) h.real_is ∙ leads h.real)
              (same s h.real h.same) refl (columns_same h.real) (h.column ∙ sym (ap (λ o. o.column) kept)) h.within (λ y. rw (columns_same h.real) (waits s m x y)));
        }) along

    pub opening_sent : (shown : Shown) → Writes (opening_bytes shown) (view own.term) (view own'.term) r →
        Falls view (λ o s m. Meets view true false o s m × IsFalse (is_between o.place)) (Within view) (λ s. s) own own' r
    opening_sent shown w = turns (opening_bytes shown) within_row w (λ s m x. x.0) (λ s m x y. (y, ap (λ o. is_between o.place) kept ∙ x.1)) (opened shown) (λ n real low. opening_stays n shown real)
        (λ s real h. same_real s real _ h) (λ real. refl) (λ s m x y. omega (arith, x.0.some_columns))

    pub on_sent : Writes (0x1B ∷ codes "[?7h") (view own.term) (view own'.term) r → Falls view (Within view) (Held view true) (λ s. s) own own' r
    on_sent w = turns (0x1B ∷ codes "[?7h") (λ real. real) w (λ s m x. x.0) (λ s m x y. (y, ap (λ o. is_between o.place) kept ∙ x.1)) wrap_on (λ n real low. on_stays n real)
        (λ s real h. h) (λ real. refl) (λ s m x y. x.0.not_waiting refl)

    pub off_sent : Writes (0x1B ∷ codes "[?7l") (view own.term) (view own'.term) r → Falls view (Held view true) (Within view) (λ s. s) own own' r
    off_sent w = turns (0x1B ∷ codes "[?7l") within_row w (λ s m x. x.0) (λ s m x y. (y, ap (λ o. is_between o.place) kept ∙ x.1)) wrap_off (λ n real low. off_stays n real)
        (λ s real h. same_real s real _ h) (λ real. refl) (λ s m x y. omega (arith, x.0.some_columns))

    pub closing_sent : (shown : Shown) → Writes (closing_bytes shown) (view own.term) (view own'.term) r → Falls view (Meets view true false) (Meets view true false) (λ s. s) own own' r
    closing_sent shown w = turns (closing_bytes shown) (λ real. real) w (λ s m x. x) (λ s m x y. y) (closed shown) (λ n real low. closing_stays n shown real)
        (λ s real h. h) (λ real. refl) (λ s m x y. absurd (false≢true y))

    pub handed : Writes [] (view own.term) (view own'.term) r → Falls view (Held view true) (Held view true) (λ s. s) own own' r
    handed w = turns [] (λ real. real) w (λ s m x. x.0) (λ s m x y. (y, ap (λ o. is_between o.place) kept ∙ x.1)) (λ real. refl) (λ n real low. tt)
        (λ s real h. h) (λ real. refl) (λ s m x y. x.0.not_waiting refl)

    -- the terminal that gets the calls stays as it is
    still : {wraps held held' : Bool} (bytes : List ℕ) (op : Screen → Screen) (ops : List Op) → ((s : Screen) (m : ModeTerminal) → Meets view wraps held own s m → Said bytes ops) →
        Writes bytes (view own.term) (view own'.term) r → ((real : Screen) → all_with wraps ops real ≡ op real) →
        ((s real : Screen) → SameRows s real → SameRows s (op real)) → ((real : Screen) → (op real).columns ≡ real.columns) →
        ((s : Screen) (m : ModeTerminal) (x : Meets view wraps held own s m) → IsTrue held' → (op x.real).column < x.real.columns) →
        Falls view (Meets view wraps held) (Meets view wraps held') (λ s. s) own own' r
    still {wraps = wraps} {held = held} bytes op ops said w is same columns_same waits =
        let along : (s : Screen) (m : ModeTerminal) → Meets view wraps held own s m → (n : ℕ) → n ≤ m.terminal.screen.row → StayAlong n m bytes =
        λ s m x. let says = said s m x in stays_asked view bytes ops says.quiet says.asks says.level s m x in
        sends view bytes r w (λ columns faults. record {
          stays = along;
          level = λ s m x. let says = said s m x in level_asked view bytes ops says.quiet says.asks says.level s m x;
          leads = λ s m x.
              let says = said s m x in
              meets_again view x (unchanged columns faults) s (op x.real) (mode_after m bytes) (asked view bytes ops says.quiet says.asks s m x ∙ ap (mode_resting wraps) (is x.real))
              (same s x.real x.same) refl (columns_same x.real) (x.column ∙ sym (ap (λ o. o.column) kept)) x.within (λ y. rw (columns_same x.real) (waits s m x y));
        }) along

    pub returned : (wraps : Bool) → Writes (0x0D ∷ []) (view own.term) (view own'.term) r → Falls view (Meets view wraps true) (Meets view wraps true) (λ s. s) own own' r
    returned wraps w = still (0x0D ∷ []) (performed Return) (Return ∷ []) (λ s m x. record { quiet = (refl, tt); asks = return_asks; level = (tt, tt) }) w (return_with wraps)
        (λ s real h. same_real s real 0 h) (λ real. refl) (λ s m x y. omega (arith, x.some_columns))

    pub moved_right : (wraps : Bool) (n : ℕ) → n < 2 ^ 64 → Writes (move_bytes 0x43 n) (view own.term) (view own'.term) r →
        Falls view (Meets view wraps true) (Meets view wraps true) (λ s. s) own own' r
    moved_right wraps zero small w = still (move_bytes 0x43 0) (λ real. real) [] (λ s m x. record { quiet = tt; asks = no_asks; level = tt }) w
        (λ real. refl) (λ s real h. h) (λ real. refl) (λ s m x y. x.not_waiting refl)
    moved_right wraps (suc n) small w =
        let k = min (suc n) GREATEST in
        still (move_bytes 0x43 (suc n)) (performed (Right k)) (Right k ∷ [])
        (λ s m x. record { quiet = move_quiet 0x43 (suc n) refl small; asks = right_asks (suc n) (omega arith) small; level = (tt, tt) }) w (right_with wraps k)
        (λ s real h. cond_both (eqb real.column real.columns) real _ (SameRows s) (λ e. h) (λ e. same_real s real _ h))
        (λ real. cond_both (eqb real.column real.columns) real _ (λ k. k.columns ≡ real.columns) (λ e. refl) (λ e. refl))
        (λ s m x y. cond_both (eqb x.real.column x.real.columns) x.real _ (λ k. k.column < x.real.columns) (λ e. x.not_waiting refl) (λ e. omega (arith, x.some_columns)))

    -- the end of the row
    pub end_sent : (wraps : Bool) → Writes (0x1B ∷ codes "[K") (view own.term) (view own'.term) r → Falls view (Meets view wraps true) (Meets view wraps true) (λ s. s) own own' r
    end_sent wraps w = turns (0x1B ∷ codes "[K") end_emptied w (λ s m x. x) (λ s m x y. y) (end_after wraps) (λ n real low. end_stays wraps real n low)
        (λ s real h. same_written s real _ h) (λ real. refl) (λ s m x y. x.not_waiting refl)

    -- a blank on the last column
    pub blank_sent : Writes (0x20 ∷ []) (view own.term) (view own'.term) r → Falls view (Meets view true true) (Meets view true false) (λ s. s) own own' r
    blank_sent w =
        let along : (s : Screen) (m : ModeTerminal) → Meets view true true own s m → (n : ℕ) → n ≤ m.terminal.screen.row → StayAlong n m (0x20 ∷ []) =
        λ s m x. stays_asked view (0x20 ∷ []) (Put 0x20 ∷ []) (refl, tt) (spaces_ask 1) (tt, tt) s m x in
        sends view (0x20 ∷ []) r w (λ columns faults. record {
          stays = along;
          level = λ s m x. level_asked view (0x20 ∷ []) (Put 0x20 ∷ []) (refl, tt) (spaces_ask 1) (tt, tt) s m x;
          leads = λ s m x.
              let real' = with_row x.real (written_at x.real.column (glyph_cells (record { base = 0x20; joiners = [] })) (cursor_row x.real)) in
              meets_again view x (unchanged columns faults) s (record real' { column = x.real.column + 1 }) (mode_after m (0x20 ∷ []))
              (asked view (0x20 ∷ []) (Put 0x20 ∷ []) (refl, tt) (spaces_ask 1) s m x ∙ ap (mode_resting true) (blank_put x.real (x.not_waiting refl)))
              (same_real s real' (x.real.column + 1) (same_written s x.real _ x.same)) refl refl (x.column ∙ sym (ap (λ o. o.column) kept)) x.within (λ y. absurd (false≢true y));
        }) along

-- ---- where a drawing begins

module _ {T : Type 0} (view : T → TermView) {own mid : EndedRows T} (is : mid ≡ unfailed view own) where
  mid_forgotten : (s : Screen) (m : ModeTerminal) → Together view own s m → Forgotten view own mid s m
  mid_forgotten s m x = subst (λ o. Forgotten view own o s m) (sym is) (forgotten view own s m x)

  pub begins_within : {own' : EndedRows T} (r : Result Unit Error) → IsFalse (is_between mid.place) → Falls view (Within view) (Within view) (λ s. s) mid own' r →
      Falls view (Together view) (Within view) (λ s. s) own own' r
  begins_within r drawing p = from_weaker view r (ap (λ o. o.term) is ∙ forgotten_term view own) (λ s m x. together_within view drawing (mid_forgotten s m x).together) p

  pub begins_anew : {own' : EndedRows T} (r : Result Unit Error) → IsTrue (is_between mid.place) → Falls view (Between view) (Within view) (λ s. s) mid own' r →
      Falls view (Together view) (Within view) (λ s. s) own own' r
  begins_anew r between p = from_weaker view r (ap (λ o. o.term) is ∙ forgotten_term view own) (λ s m x. let f = mid_forgotten s m x in (f.together, between, f.known)) p

pub drawn_drawing : (p : Phase) → is_between (drawn_place p) ≡ false
drawn_drawing Drawing = refl
drawn_drawing Edge = refl
drawn_drawing Resting = refl
drawn_drawing Waiting = refl

pub also_sent : {T : Type 0} (own own' : EndedRows T) → own' ≡ record own { term = own'.term } → own' ≡ record own { term = own'.term; sent = own'.sent }
also_sent own own' e = e ∙ ap (λ n. record own { term = own'.term; sent = n }) (sym (ap (λ o. o.sent) e))

module _ {T : Type 0} (view : T → TermView) where
  -- a drawing that begins
  pub opens_drawing : {own own' : EndedRows T} {place : Phase} {bytes : List ℕ} (r : Result Unit Error) → is_between place ≡ false → bytes ≡ opening_bytes own.shown →
      own' ≡ record own { place = place; written = false; term = own'.term; sent = own'.sent } → Writes bytes (view own.term) (view own'.term) r →
      Falls view (Between view) (Within view) (λ s. s) own own' r
  opens_drawing {own = own} {own' = own'} {place = place} r drawing e kept w =
      let begun : EndedRows T = record own { place = place; sent = 0; written = false } in
      from_weaker view {a = own} {a' = begun} r refl (λ s m x. (together_opens view refl refl refl refl x.1 x.2 x.0, drawing))
      (opening_sent view {own = begun} r kept own.shown (subst (λ bs. Writes bs (view own.term) (view own'.term) r) e w))

  pub rested : {own : EndedRows T} {s : Screen} {m : ModeTerminal} → own.column ≡ 0 → Meets view true true own s m → Ended view (record own { place = Resting }) s m
  rested e x = (
    record {
      real = x.real;
      real_is = x.real_is;
      same = x.same;
      columns = x.columns;
      small = x.small;
      column = x.column;
      within = x.within;
      some_columns = x.some_columns;
      not_waiting = λ y. absurd (false≢true y);
      alone = x.alone;
      known = x.known;
    },
    refl,
    λ _. e,
  )

  pub rests : {own own' : EndedRows T} → own.column ≡ 0 → own'.column ≡ own.column → Falls view (Held view true) (Meets view true true) (λ s. s) own own' (Ok tt) →
      Falls view (Held view true) (Ended view) (λ s. s) own (record own' { place = Resting }) (Ok tt)
  rests {own' = own'} e column p = then_falls view (Ok tt) p (stands view {own = own'} refl (λ s m x. rested (column ∙ e) x))

  waiting_rests : Waiting ≡ Resting → ⊥
  waiting_rests e = cc e

  pub waits_there : {own own' : EndedRows T} → Falls view (Held view true) (Meets view true false) (λ s. s) own own' (Ok tt) →
      Falls view (Held view true) (Ended view) (λ s. s) own (record own' { place = Waiting }) (Ok tt)
  waits_there {own' = own'} p = then_falls view (Ok tt) p
      (stands view {own = own'} refl (λ s m x. (meets_like view refl refl refl refl x, refl, λ e. absurd (waiting_rests e))))

  -- a row that is left: its end emptied
  module _ (wraps : Bool) {own : EndedRows T} where
    pub left_front : {own' : EndedRows T} (r : Result Unit Error) → own' ≡ record own { written = false; place = Edge; term = own'.term; sent = own'.sent } →
        Writes (0x0D ∷ []) (view own.term) (view own'.term) r → Falls view (Held view wraps) (Meets view wraps true) (λ s. s) own own' r
    left_front r kept w =
        let left : EndedRows T = record own { written = false; place = Edge } in
        from_weaker view {a = own} {a' = left} r refl (λ s m x. meets_like view refl refl refl refl x.0) (returned view r kept wraps w)

    pub left_edge : {own' : EndedRows T} (r : Result Unit Error) → own'.place ≡ Edge → Falls view (Held view wraps) (Meets view wraps true) (λ s. s) own own' r →
        Falls view (Held view wraps) (Held view wraps) (λ s. s) own own' r
    left_edge r edge p = to_weaker view r (λ s m m' x y. (y, ap is_between edge)) p

  -- what closes a drawing
  pub closes : {own own' : EndedRows T} {bytes : List ℕ} (r : Result Unit Error) → bytes ≡ closing_bytes own.shown → own' ≡ record own { term = own'.term; sent = own'.sent } →
      Writes bytes (view own.term) (view own'.term) r → Falls view (Ended view) (Together view) (λ s. s) own own' r
  closes {own = own} {own' = own'} r e kept w =
      to_weaker view r (λ s m m' x y.
      meets_together view (ap (λ o. is_between o.place) kept ∙ x.1) (λ resting. ap (λ o. o.column) kept ∙ x.2 (sym (ap (λ o. o.place) kept) ∙ resting)) y)
      (from_weaker view r refl (λ s m x. x.0) (closing_sent view r kept own.shown (subst (λ bs. Writes bs (view own.term) (view own'.term) r) e w)))

module _ {T : Type 0} (view : T → TermView) {own own' : EndedRows T} (r : Result Unit Error) (kept : own' ≡ record own { term = own'.term; sent = own'.sent }) where
  -- what was written is handed on
  pub handed_between : Writes [] (view own.term) (view own'.term) r → Falls view (Together view) (Together view) (λ s. s) own own' r
  handed_between w =
      let along : (s : Screen) (m : ModeTerminal) → Together view own s m → (n : ℕ) → n ≤ m.terminal.screen.row → StayAlong n m [] = λ s m x n low. tt in
      sends view [] r w (λ columns faults. record {
        stays = along;
        level = λ s m x. omega arith;
        leads = λ s m x. record {
          real = x.real;
          real_is = x.real_is ∙ ap (λ p. mode_resting (is_between p) x.real) (sym (ap (λ o. o.place) kept));
          same = x.same;
          columns = x.columns ∙ sym columns;
          small = x.small;
          column = x.column ∙ sym (ap (λ o. o.column) kept);
          within = x.within;
          some_columns = x.some_columns;
          not_waiting = λ h. x.not_waiting (sym (ap (λ o. is_between o.place) kept) ∙ h);
          at_front = λ e. ap (λ o. o.column) kept ∙ x.at_front (sym (ap (λ o. o.place) kept) ∙ e);
          alone = ap (λ o. o.row) kept ∙ x.alone;
          known = elim x.known [
            | inl e ↦ inl (ap (λ o. o.place) kept ∙ e)
            | inr e ↦ inr (ap (λ o. o.faults) kept ∙ e ∙ sym faults)
          ];
        };
      }) along
