-- Each step of a call whose rows the program ends, by the bytes that it writes.
use Rattle.std.proofs.Common.{◌≡◌, ◌∙◌, ℕ, zero, suc, ◌+◌, ◌-◌, ◌<◌, ◌≤◌, ◌^◌, Bool, true, false, List, [], ◌∷◌, ◌++◌, length, take, drop, refl, sym, ap, subst, arith, map, sum_by, eqb, None, Result, Ok, min, inl, inr}
use Rattle.std.specs.Prelude.{nat_lt, is_some, decimal, ◌==◌}
use Rattle.std.specs.List.{AllByRecursion}
use Rattle.std.specs.declared.io.Error.{Error}
use Rattle.std.proofs.Math.Utf8.{scalar, scalars, encode, encodes}
use Rattle.std.proofs.lemmas.Bool.{cond_both, cases_Bool, false≢true, and_parts, eqb-true, ne_eqb, ltb-true, ltb-false, le-leb, lt-leb, false_from_ne_true}
use Rattle.std.proofs.lemmas.Str.{encode_ascii}
use Rattle.unicode_width.specs.Width.{char_width}
use Rattle.indicatif_text.specs.Columns.{width_of, visible, visible_from, colour_length, is_parameter}
use Rattle.indicatif_text.specs.PieceLaws.{IsExact}
use Rattle.indicatif_text.specs.Pieces.{Colour}
use Rattle.indicatif_text.proofs.ColourSequenceLemmas.{hidden, visible_none}
use Rattle.indicatif_text.proofs.PieceLawLemmas.{Parameters, Ended, Further, Sequence as ColourSequence, Opened, sequence_from}
use Rattle.indicatif_term.specs.Screen.{Screen, Op, Put, Return, LineFeed, Up, Down, Right, Left, EmptyRow, performed}
use Rattle.indicatif_term.specs.Terminal.{OutsideSequence, Reader, GREATEST, idle, after}
use Rattle.indicatif_term.specs.Calls.{TermView, Writes, move_bytes, clear_bytes}
use Rattle.indicatif_term.specs.Shows.{resting}
use Rattle.indicatif_term.specs.Modes.{ModeTerminal, mode_after, performed_with, is_own, HasNoOwn}
use Rattle.indicatif_term.specs.Inside.Scanners.{reader_after, all_with}
use Rattle.indicatif_term.specs.Inside.EndedRows.{StayAlong, Held, Within, WithinTo, WithinIf, LeadsBoth, Falls, at_column, next_front, rows_moved, front_emptied, all_put, AreShown}
use Rattle.indicatif_term.specs.declared.target.ended_rows.EndedRows.{EndedRows}
use Rattle.indicatif_term.proofs.ReaderLemmas.{Spells, char_read, chars_read, char_list_ops, place_after}
use Rattle.indicatif_term.proofs.TextLemmas.{not_control, AsksToPut, reads, IsPut, is_put}
use Rattle.indicatif_term.proofs.CallLemmas.{Asks, asks_chars, end_asks, clear_asks, up_asks, after_asks}
use Rattle.indicatif_term.proofs.MoveLemmas.{IsDigit, number, return_asks, right_asks, down_asks}
use Rattle.indicatif_term.proofs.RowsAboveLemmas.{puts_only}
use Rattle.indicatif_term.proofs.ModeLemmas.{IsQuiet, along, no_own_by, no_own-append, char_quiet}
use Rattle.indicatif_term.proofs.EndedRowLemmas.{to_weaker, carry_sends, stands}
use Rattle.indicatif_term.proofs.EndedStepLemmas.{Ready, Fits, Led, ready, acts, asked, meets_again, front_fits, next_fits, emptied_fits, right_fits, still_fits, chars_fit}

-- ---- what bytes ask, and that a terminal without modes knows them

quiet_append : (xs ys : List ℕ) → AllByRecursion IsQuiet xs → AllByRecursion IsQuiet ys → AllByRecursion IsQuiet (xs ++ ys)
quiet_append [] ys h k = k
quiet_append (x ∷ xs) ys h k = (h.0, quiet_append xs ys h.1 k)

quiet_digits : (ds : List ℕ) → AllByRecursion IsDigit ds → AllByRecursion IsQuiet ds
quiet_digits [] all = tt
quiet_digits (d ∷ ds) all = (rw (ne_eqb d 0x3F (λ e. omega (arith, all.0.1, e)), ne_eqb d 0x4B (λ e. omega (arith, all.0.1, e))) refl, quiet_digits ds all.1)

pub move_quiet : (letter n : ℕ) → IsQuiet letter → n < 2 ^ 64 → HasNoOwn idle (move_bytes letter n)
move_quiet letter n other small = cond_both (eqb n 0) [] (0x1B ∷ 0x5B ∷ (decimal n ++ letter ∷ [])) (HasNoOwn idle)
    (λ e. tt)
    (λ e. no_own_by idle (0x1B ∷ 0x5B ∷ (decimal n ++ letter ∷ [])) (refl, (refl, quiet_append (decimal n) (letter ∷ []) (quiet_digits (decimal n) (number n small).digits) (other, tt))))

clear_quiet : HasNoOwn idle clear_bytes
unfolding encode
clear_quiet =
    let front = 0x0D ∷ 0x1B ∷ 0x5B ∷ 0x32 ∷ [] in
    no_own-append idle front (0x4B ∷ []) (no_own_by idle front (refl, (refl, (refl, (refl, tt))))) (ap (λ r. is_own r.place 0x4B) (chars_read OutsideSequence front refl).1, tt)

pub no_asks : Asks [] []
no_asks = record { asked = refl; reader = refl }

shown_list : (cs : List ℕ) → AreShown cs → (char_list_ops OutsideSequence cs ≡ map (λ c. Put c) cs) × (place_after OutsideSequence cs ≡ OutsideSequence)
shown_list [] all = (refl, refl)
shown_list (c ∷ cs) all =
    let p : IsPut c = is_put c all.0 in
    let rest = shown_list cs all.1 in
    (rw (p.ops, p.place) (ap (λ ops. Put c ∷ ops) rest.0), rw p.place rest.1)

pub shown_asks : (cs : List ℕ) → AreShown cs → scalars cs ≡ true → Asks (encodes cs) (map (λ c. Put c) cs)
shown_asks cs all s = let h = shown_list cs all in asks_chars cs (map (λ c. Put c) cs) s h.0 h.1

pub shown_quiet : (cs : List ℕ) → AreShown cs → scalars cs ≡ true → HasNoOwn idle (encodes cs)
shown_quiet [] all s = tt
shown_quiet (c ∷ cs) all s =
    let both = and_parts (scalar c) (scalars cs) s in
    let p : IsPut c = is_put c all.0 in
    let read : Spells idle (encode c) c = char_read idle c both.0 in
    let next : reader_after idle (encode c) ≡ idle = read.reader ∙ ap (λ place. let r : Reader = record { place = place; spelling = [] } in r) p.place in
    no_own-append idle (encode c) (encodes cs) (char_quiet c) (subst (λ r. HasNoOwn r (encodes cs)) (sym next) (shown_quiet cs all.1 both.1))

-- ---- colour sequences

abbrev IsLow : ℕ → Type 0
IsLow c = (c < 128) × IsQuiet c

no_high_parameter : (c : ℕ) → 128 ≤ c → is_parameter c ≡ false
no_high_parameter c h = rw (le-leb 0x30 c (omega arith), lt-leb c 0x39 (omega arith), ne_eqb c 0x3B (λ e. omega arith)) refl

other_than : (c k : ℕ) → is_parameter k ≡ false → is_parameter c ≡ true → eqb c k ≡ false
other_than c k outside e = false_from_ne_true (eqb c k) (λ is. false≢true (sym outside ∙ sym (ap is_parameter (eqb-true c k is)) ∙ e))

parameter_low : (c : ℕ) → is_parameter c ≡ true → IsLow c
parameter_low c e = (
  elim (cases_Bool (nat_lt c 128)) [
    | inl low ↦ ltb-true c 128 low
    | inr high ↦ absurd (false≢true (sym (no_high_parameter c (ltb-false c 128 high)) ∙ e))
  ],
  rw (other_than c 0x3F refl e, other_than c 0x4B refl e) refl,
)

last_low : (c : ℕ) (cs : List ℕ) → eqb c 0x6D ≡ true → 1 ≡ length (c ∷ cs) → AllByRecursion IsLow (c ∷ cs)
last_low c [] e one = subst (λ d. AllByRecursion IsLow (d ∷ [])) (sym (eqb-true c 0x6D e)) ((omega arith, refl), tt)
last_low c (d ∷ cs) e one = absurd (omega (arith, one))

low_parameters : {cs : List ℕ} {n : ℕ} → Parameters cs n → n ≡ length cs → AllByRecursion IsLow cs
low_parameters (Ended c cs ended) e = last_low c cs ended e
low_parameters (Further c k cs other is rest) e = (parameter_low c is, low_parameters rest (omega (arith, e)))

low_sequence : {cs : List ℕ} {n : ℕ} → ColourSequence cs n → n ≡ length cs → AllByRecursion IsLow cs
low_sequence (Opened c d k cs opened rest) e =
    let both = and_parts (c == 0x1B) (d == 0x5B) opened in
    let first : IsLow c = subst IsLow (sym (eqb-true c 0x1B both.0)) (omega arith, refl) in
    let second : IsLow d = subst IsLow (sym (eqb-true d 0x5B both.1)) (omega arith, refl) in
    (first, (second, low_parameters rest (omega (arith, e))))

low_bytes : (cs : List ℕ) → AllByRecursion IsLow cs → encodes cs ≡ cs
low_bytes [] all = refl
low_bytes (c ∷ cs) all = ap (λ bs. bs ++ encodes cs) (encode_ascii c all.0.0) ∙ ap (λ bs. c ∷ bs) (low_bytes cs all.1)

low_quiet : (cs : List ℕ) → AllByRecursion IsLow cs → AllByRecursion IsQuiet cs
low_quiet [] all = tt
low_quiet (c ∷ cs) all = (all.0.1, low_quiet cs all.1)

-- a colour sequence asks for nothing
pub colour_quiet : (cs : List ℕ) → IsExact (Colour cs) → HasNoOwn idle (encodes cs)
colour_quiet cs e =
    let low = low_sequence (sequence_from cs (length cs) e) refl in
    subst (HasNoOwn idle) (sym (low_bytes cs low)) (no_own_by idle cs (low_quiet cs low))

some_sequence : {cs : List ℕ} {n : ℕ} → ColourSequence cs n → 0 < n
some_sequence (Opened c d k cs opened rest) = omega arith

drop_all : (cs : List ℕ) → drop (length cs) cs ≡ []
drop_all [] = refl
drop_all (c ∷ cs) = drop_all cs

colour_hidden : (cs : List ℕ) → IsExact (Colour cs) → visible cs ≡ []
colour_hidden cs e = hidden (length cs) cs e (some_sequence (sequence_from cs (length cs) e)) ∙ ap visible (drop_all cs) ∙ visible_none

pub colour_asks : (cs : List ℕ) → IsExact (Colour cs) → scalars cs ≡ true → Asks (encodes cs) []
unfolding visible
colour_asks cs e s =
    let none : visible_from 0 cs ≡ [] = colour_hidden cs e in
    let read : AsksToPut OutsideSequence cs (visible_from 0 cs) = (reads cs).plain (subst (AllByRecursion (λ c. is_some (char_width false c) ≡ true)) (sym none) tt) in
    asks_chars cs [] s (read.ops ∙ ap (map (λ c. Put c)) none) read.after

escape_hidden : is_some (char_width false 0x1B) ≡ false
unfolding char_width
escape_hidden = refl

-- what is visible of characters that each have a width is all of them
shown_past : (c : ℕ) (cs : List ℕ) → is_some (char_width false c) ≡ true → colour_length (c ∷ cs) ≡ None
shown_past c [] h = refl
shown_past c (d ∷ cs) h = rw (not_control c 0x1B h escape_hidden) refl

pub all_visible : (cs : List ℕ) → AreShown cs → visible cs ≡ cs
unfolding visible
all_visible [] all = refl
all_visible (c ∷ cs) all = rw (shown_past c cs all.0) (ap (λ ds. c ∷ ds) (all_visible cs all.1))

-- ---- steps by their bytes

module _ {T : Type 0} (view : T → TermView) {own own' : EndedRows T} (r : Result Unit Error) where
  pub front_sent : Led view own own' 0 → Writes (0x0D ∷ []) (view own.term) (view own'.term) r → Falls view (Within view) (Within view) (at_column 0) own own' r
  front_sent led w = acts view false 0 (at_column 0) (0x0D ∷ []) (Return ∷ []) r led w
      (λ s m x. record { quiet = (refl, tt); asks = return_asks; level = (tt, tt) })
      (λ s m x. x) (λ s m x. front_fits s x.0.real (ready view x.0))

  pub next_sent : Led view own own' 0 → Writes (0x0D ∷ 0x0A ∷ []) (view own.term) (view own'.term) r → Falls view (Within view) (Within view) next_front own own' r
  next_sent led w = acts view false 0 next_front (0x0D ∷ 0x0A ∷ []) (Return ∷ LineFeed ∷ []) r led w
      (λ s m x. record { quiet = no_own_by idle (0x0D ∷ 0x0A ∷ []) (refl, (refl, tt)); asks = end_asks; level = (tt, (tt, tt)) })
      (λ s m x. x) (λ s m x. next_fits s x.0.real (ready view x.0))

  pub emptied_sent : Led view own own' 0 → Writes clear_bytes (view own.term) (view own'.term) r → Falls view (Within view) (Within view) front_emptied own own' r
  emptied_sent led w = acts view false 0 front_emptied clear_bytes (Return ∷ EmptyRow ∷ []) r led w
      (λ s m x. record { quiet = clear_quiet; asks = clear_asks; level = (tt, (tt, tt)) })
      (λ s m x. x) (λ s m x. emptied_fits s x.0.real (ready view x.0))

  pub right_sent : (column : ℕ) → column < 2 ^ 64 → Led view own own' column → Writes (move_bytes 0x43 column) (view own.term) (view own'.term) r →
      Falls view (WithinTo view column) (Within view) (at_column column) own own' r
  right_sent zero small led w = acts view false 0 (at_column 0) [] [] r led w
      (λ s m x. record { quiet = tt; asks = no_asks; level = tt })
      (λ s m x. x.0) (λ s m x. still_fits 0 s x.0.0.real (ready view x.0.0) x.1)
  right_sent (suc n) small led w = acts view false (suc n) (at_column (suc n)) (move_bytes 0x43 (suc n)) (Right (min (suc n) GREATEST) ∷ []) r led w
      (λ s m x. record { quiet = move_quiet 0x43 (suc n) refl small; asks = right_asks (suc n) (omega arith) small; level = (tt, tt) })
      (λ s m x. x.0) (λ s m x. right_fits (min (suc n) GREATEST) (suc n) s x.0.0.real (ready view x.0.0) x.1)

  -- a colour sequence
  pub colour_sent : (cs : List ℕ) → scalars cs ≡ true → Led view own own' own.column → Writes (encodes cs) (view own.term) (view own'.term) r →
      Falls view (WithinIf view (IsExact (Colour cs))) (Within view) (λ s. s) own own' r
  colour_sent cs scalar_all led w = acts view false own.column (λ s. s) (encodes cs) [] r led w
      (λ s m x. record { quiet = colour_quiet cs x.1; asks = colour_asks cs x.1 scalar_all; level = tt })
      (λ s m x. x.0) (λ s m x. let h = ready view x.0.0 in record {
        same = h.same;
        columns = refl;
        real_columns = refl;
        at = x.0.0.column;
        within = h.within;
        not_waiting = h.not_waiting;
      })

  -- characters that the row has room for
  pub chars_sent : {P : EndedRows T → Screen → ModeTerminal → Type 0} (cs : List ℕ) (wide : ℕ) → scalars cs ≡ true → Led view own own' (min (own.column + wide) (2 ^ 64 - 1)) →
      Writes (encodes cs) (view own.term) (view own'.term) r →
      (within : (s : Screen) (m : ModeTerminal) → P own s m → WithinIf view (AreShown cs) own s m) →
      ((s : Screen) (m : ModeTerminal) → P own s m → (wide ≡ sum_by width_of cs) × (s.column + wide ≤ s.columns)) → Falls view P (Within view) (all_put cs) own own' r
  chars_sent cs wide scalar_all led w within room = acts view false (min (own.column + wide) (2 ^ 64 - 1)) (all_put cs) (encodes cs) (map (λ c. Put c) cs) r led w
      (λ s m x. let all = (within s m x).1 in record { quiet = shown_quiet cs all scalar_all; asks = shown_asks cs all scalar_all; level = puts_only cs })
      (λ s m x. (within s m x).0) (λ s m x.
      let h = (within s m x).0.0 in
      let fits = room s m x in
      subst (Fits s h.real (all_put cs s) (all_with false (map (λ c. Put c) cs) h.real)) (omega (arith, h.column, fits.0, fits.1, h.small))
      (chars_fit cs s h.real (within s m x).1 (ready view h) (omega (arith, fits.0, fits.1))))

down_fits : (k column : ℕ) (s real : Screen) → Ready s real → s.column ≡ column → Fits s real (performed (Down k) s) (performed (Down k) real) column
down_fits k column s real h e = record {
  same = record { count = h.same.count; height = h.same.height; row = omega (arith, h.same.row, h.same.count); in_rows = omega (arith, h.same.in_rows); window = h.same.window };
  columns = refl;
  real_columns = refl;
  at = e;
  within = h.within;
  not_waiting = h.not_waiting;
}

up_fits : (k column : ℕ) (s real : Screen) → Ready s real → s.column ≡ column → Fits s real (performed (Up k) s) (performed (Up k) real) column
up_fits k column s real h e = record {
  same = record {
    count = h.same.count;
    height = h.same.height;
    row = omega (arith, h.same.row, h.same.count, h.same.height);
    in_rows = omega (arith, h.same.in_rows, h.same.window);
    window = h.same.window;
  };
  columns = refl;
  real_columns = refl;
  at = e;
  within = h.within;
  not_waiting = h.not_waiting;
}

abbrev IsUp : Op → Type 0
IsUp (Up k) = Unit {0}
IsUp _ = ⊥

up_same : (n : ℕ) (op : Op) (s : Screen) → IsUp op → Unit {0} → (take n (performed_with false op s).rows ≡ take n s.rows) × Unit {0}
up_same n (Up k) s h p = (refl, tt)
up_same n (Put c) s h p = absurd h
up_same n Return s h p = absurd h
up_same n LineFeed s h p = absurd h
up_same n (Down k) s h p = absurd h
up_same n (Right k) s h p = absurd h
up_same n (Left k) s h p = absurd h
up_same n EmptyRow s h p = absurd h

-- no rows
pub none_moved : (letter n : ℕ) (s : Screen) → n ≡ 0 → rows_moved letter n s ≡ s
unfolding after
none_moved letter n s none = ap (λ k. rows_moved letter k s) none

pub down_with : (wraps : Bool) (k : ℕ) (s : Screen) → performed_with wraps (Down k) s ≡ performed (Down k) s
down_with true k s = refl
down_with false k s = refl

module _ {T : Type 0} (view : T → TermView) {own own' : EndedRows T} (r : Result Unit Error) where
  pub down_sent : (wraps : Bool) (n : ℕ) → 0 < n → n < 2 ^ 64 → Led view own own' own.column → Writes (move_bytes 0x42 n) (view own.term) (view own'.term) r →
      Falls view (Held view wraps) (Held view wraps) (rows_moved 0x42 n) own own' r
  down_sent wraps n some small led w =
      let k = min n GREATEST in
      let asks = down_asks n some small in
      to_weaker view r (λ s m m' x y. subst (λ u. Held view wraps own' u m') (sym (ap (λ t. t.screen) (after_asks s (performed (Down k) s) (move_bytes 0x42 n) (Down k ∷ []) asks refl))) y)
      (acts view wraps own.column (performed (Down k)) (move_bytes 0x42 n) (Down k ∷ []) r led w
      (λ s m x. record { quiet = move_quiet 0x42 n refl small; asks = asks; level = (tt, tt) })
      (λ s m x. x) (λ s m x. subst (λ real'. Fits s x.0.real (performed (Down k) s) real' own.column) (sym (down_with wraps k x.0.real))
      (down_fits k own.column s x.0.real (ready view x.0) x.0.column)))

  pub up_sent : (n : ℕ) → 0 < n → n < 2 ^ 64 → Led view own own' own.column → Writes (move_bytes 0x41 n) (view own.term) (view own'.term) r →
      LeadsBoth view (Within view) (Within view) (rows_moved 0x41 n) own own' r
  up_sent n some small led w =
      let bytes = move_bytes 0x41 n in
      let k = min n GREATEST in
      let asks : Asks bytes (Up k ∷ []) = up_asks n some small in
      let quiet : HasNoOwn idle bytes = move_quiet 0x41 n refl small in
      let stay : (s : Screen) (m : ModeTerminal) → Within view own s m → (i : ℕ) → StayAlong i m bytes =
      λ s m x i. subst (λ u. StayAlong i u bytes) (sym x.0.real_is)
      (along i false (λ _. Unit {0}) IsUp (up_same i) bytes idle x.0.real quiet (subst (AllByRecursion IsUp) (sym asks.asked) (tt, tt)) tt) in
      carry_sends view bytes r w
      (λ columns faults s m x.
      let h = up_fits k own.column s x.0.real (ready view x.0) x.0.column in
      let is : (after (resting s) bytes).screen ≡ performed (Up k) s = ap (λ t. t.screen) (after_asks s (performed (Up k) s) bytes (Up k ∷ []) asks refl) in
      subst (λ u. Within view own' u (mode_after m bytes)) (sym is) (
        meets_again view x.0 (record { columns = columns; faults = faults; row = led.row; known = led.known }) (performed (Up k) s) (performed (Up k) x.0.real) (mode_after m bytes)
            (asked view bytes (Up k ∷ []) quiet asks s m x.0) h.same h.columns h.real_columns (h.at ∙ sym led.at) h.within (λ _. h.not_waiting),
        led.drawing x.1,
      ))
      (λ s m x i low. stay s m x i)

  -- no rows up or down
  pub no_rows : (wraps : Bool) (letter n : ℕ) → n ≡ 0 → own' ≡ own → Falls view (Held view wraps) (Held view wraps) (rows_moved letter n) own own' (Ok tt)
  no_rows wraps letter n none e =
      stands view (ap (λ o. view o.term) e) (λ s m x. subst (λ o. Held view wraps o (rows_moved letter n s) m) (sym e) (subst (λ u. Held view wraps own u m) (sym (none_moved letter n s none)) x))

  -- on a terminal of its own there are none
  pub alone_down : (wraps : Bool) (n : ℕ) → (own.row ≡ None → n ≡ 0) → Falls view (Held view wraps) (Held view wraps) (rows_moved 0x42 n) own own' r →
      Falls view (Held view wraps) (Held view wraps) (λ s. s) own own' r
  alone_down wraps n none p = to_weaker view r (λ s m m' x y. subst (λ u. Held view wraps own' u m') (none_moved 0x42 n s (none x.0.alone)) y) p

  pub alone_up : (n : ℕ) → (own.row ≡ None → n ≡ 0) → LeadsBoth view (Within view) (Within view) (rows_moved 0x41 n) own own' r → Falls view (Within view) (Within view) (λ s. s) own own' r
  alone_up n none p =
      let same : (s : Screen) (m m' : ModeTerminal) → Within view own s m → Within view own' (rows_moved 0x41 n s) m' → Within view own' s m' =
      λ s m m' x y. subst (λ u. Within view own' u m') (none_moved 0x41 n s (none x.0.alone)) y in
      record {
        carries = record {
          quiet = p.quiet;
          bytes = p.bytes;
          told_is = p.told_is;
          stays = p.stays;
          leads = λ ok s m x. same s m (mode_after m p.bytes) x (p.leads ok s m x);
        };
        level = λ ok s m x.
            let y = (same s m (mode_after m p.bytes) x (p.leads ok s m x)).0 in
            omega (arith, ap (λ u. u.terminal.screen.row) x.0.real_is, x.0.same.row, ap (λ u. u.terminal.screen.row) y.real_is, y.same.row);
      }
