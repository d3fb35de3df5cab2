-- What a terminal does whose wrap can be turned off, byte by byte.
use Rattle.std.proofs.Common.{◌≡◌, ℕ, zero, suc, ◌-◌, ◌<◌, ◌≤◌, Bool, true, false, List, [], ◌∷◌, ◌++◌, length, take, refl, sym, ◌∙◌, ap, subst, arith, eqb, Option, Some, None, append-nil, inl, inr}
use Rattle.std.specs.Option.{option_map_or}
use Rattle.std.specs.Prelude.{option_to_list, nat_lt, ◌||◌, min, codes}
use Rattle.std.specs.List.{AllByRecursion}
use Rattle.std.proofs.Math.Utf8.{encode}
use Rattle.std.proofs.lemmas.Bool.{cond_both, cases_Bool, false≢true, eqb-true}
use Rattle.std.proofs.lemmas.List.{take-set-le}
use Rattle.unicode_width.specs.Width.{char_width}
use Rattle.indicatif_term.specs.Screen.{Screen, Op, Put, Return, LineFeed, Up, Down, Right, Left, EmptyRow, performed, put_joiner}
use Rattle.indicatif_term.specs.Terminal.{Terminal, SequencePlace, OutsideSequence, Escaped, Sequence, Reader, idle, is_leading, byte_step, after}
use Rattle.indicatif_term.specs.Modes.{put_over, put_unwrapped, performed_with, ModeTerminal, mode_resting, is_own, end_emptied, step_by, mode_after, ModeRowsStay, HasNoOwn}
use Rattle.indicatif_term.specs.Inside.Scanners.{byte_reader, performed_all, byte_ops, reader_after, char_ops, char_place, all_with}
use Rattle.indicatif_term.specs.Feeding.{ops_of}
use Rattle.indicatif_term.specs.Inside.EndedRows.{StayAlong}
use Rattle.indicatif_term.proofs.CursorRowLemmas.{IsBelow}
use Rattle.indicatif_term.proofs.FeedLemmas.{after_is}
use Rattle.indicatif_term.proofs.ReaderLemmas.{HasShape, shape, Spells}
use Rattle.indicatif_term.proofs.CallLemmas.{Asks}
use Rattle.indicatif_term.proofs.WholeSequenceLemmas.{ascii_read}
use Rattle.indicatif_term.proofs.RowsAboveLemmas.{Stays, IsLevel, stays_same, stays_with_row, stays_column, stays_here, stays_done}

-- ---- bytes in two parts

pub mode_after-append : (m : ModeTerminal) (xs ys : List ℕ) → mode_after m (xs ++ ys) ≡ mode_after (mode_after m xs) ys
mode_after-append m [] ys = refl
mode_after-append m (x ∷ xs) ys = mode_after-append (step_by m.private_number m x) xs ys

pub stay_both : (n : ℕ) (m : ModeTerminal) (xs ys : List ℕ) → StayAlong n m xs → StayAlong n (mode_after m xs) ys → StayAlong n m (xs ++ ys)
stay_both n m [] ys h k = k
stay_both n m (x ∷ xs) ys h k = (h.0, stay_both n (step_by m.private_number m x) xs ys h.1 k)

pub stay_front : (n : ℕ) (m : ModeTerminal) (xs ys : List ℕ) → StayAlong n m (xs ++ ys) → StayAlong n m xs
stay_front n m [] ys h = tt
stay_front n m (x ∷ xs) ys h = (h.0, stay_front n (step_by m.private_number m x) xs ys h.1)

-- the same by places
pub stay_by_place : (n : ℕ) (m : ModeTerminal) (bytes : List ℕ) → StayAlong n m bytes → ModeRowsStay n m bytes
stay_by_place n m [] h zero = refl
stay_by_place n m [] h (suc k) = refl
stay_by_place n m (b ∷ bytes) h zero = refl
stay_by_place n m (b ∷ bytes) h (suc k) = stay_by_place n (step_by m.private_number m b) bytes h.1 k ∙ h.0

-- ---- bytes that are read as any terminal reads them

abbrev pub reading : Bool → Screen → Reader → ModeTerminal
reading wraps s r = record { terminal = record { screen = s; reader = r }; wraps = wraps; private_number = None }

pub all_with-append : (wraps : Bool) (xs ys : List Op) (s : Screen) → all_with wraps (xs ++ ys) s ≡ all_with wraps ys (all_with wraps xs s)
all_with-append wraps [] ys s = refl
all_with-append wraps (x ∷ xs) ys s = all_with-append wraps xs ys (performed_with wraps x s)

one_asked : (wraps : Bool) (o : Option Op) (s : Screen) → option_map_or (λ op. performed_with wraps op s) o s ≡ all_with wraps (option_to_list o) s
one_asked wraps None s = refl
one_asked wraps (Some op) s = refl

one_read : (wraps : Bool) (s : Screen) (r : Reader) (b : ℕ) → is_own r.place b ≡ false →
    step_by None (reading wraps s r) b ≡ reading wraps (all_with wraps (byte_ops r b) s) (byte_reader r b)
one_read wraps s r b h = rw h (ap (λ x. reading wraps x (byte_reader r b)) (one_asked wraps (byte_step r b).0 s))

pub all_read : (wraps : Bool) (s : Screen) (r : Reader) (bytes : List ℕ) → HasNoOwn r bytes →
    mode_after (reading wraps s r) bytes ≡ reading wraps (all_with wraps (ops_of r bytes) s) (reader_after r bytes)
all_read wraps s r [] h = refl
all_read wraps s r (b ∷ bytes) h =
    ap (λ m. mode_after m bytes) (one_read wraps s r b h.0) ∙ all_read wraps (all_with wraps (byte_ops r b) s) (byte_reader r b) bytes h.1
    ∙ ap (λ t. reading wraps t (reader_after (byte_reader r b) bytes)) (sym (all_with-append wraps (byte_ops r b) (ops_of (byte_reader r b) bytes) s))

pub asked_with : (wraps : Bool) (s : Screen) (bytes : List ℕ) (ops : List Op) → HasNoOwn idle bytes → Asks bytes ops →
    mode_after (mode_resting wraps s) bytes ≡ mode_resting wraps (all_with wraps ops s)
asked_with wraps s bytes ops h asks =
    all_read wraps s idle bytes h ∙ ap (λ r. reading wraps (all_with wraps (ops_of idle bytes) s) r) asks.reader
    ∙ ap (λ os. reading wraps (all_with wraps os s) idle) asks.asked

-- ---- which bytes a terminal without modes knows

-- neither ? nor K
abbrev pub IsQuiet : ℕ → Type 0
IsQuiet b = (eqb b 0x3F || eqb b 0x4B) ≡ false

no_turn : (place : SequencePlace) (b : ℕ) → IsQuiet b → is_own place b ≡ false
no_turn OutsideSequence b h = refl
no_turn Escaped b h = refl
no_turn (Sequence None) b h = refl
no_turn (Sequence (Some n)) b h = elim (cases_Bool (eqb n 0)) [
  | inl e ↦ rw (e, h) refl
  | inr e ↦ rw e refl
]

pub no_own_by : (r : Reader) (bytes : List ℕ) → AllByRecursion IsQuiet bytes → HasNoOwn r bytes
no_own_by r [] all = tt
no_own_by r (b ∷ bytes) all = (no_turn r.place b all.0, no_own_by (byte_reader r b) bytes all.1)

pub no_own-append : (r : Reader) (xs ys : List ℕ) → HasNoOwn r xs → HasNoOwn (reader_after r xs) ys → HasNoOwn r (xs ++ ys)
no_own-append r [] ys h k = k
no_own-append r (x ∷ xs) ys h k = (h.0, no_own-append (byte_reader r x) xs ys h.1 k)

not_leading : (b k : ℕ) → is_leading k ≡ true → is_leading b ≡ false → eqb b k ≡ false
not_leading b k leads h = elim (cases_Bool (eqb b k)) [
  | inl e ↦ absurd (false≢true (sym h ∙ ap is_leading (eqb-true b k e) ∙ leads))
  | inr e ↦ e
]

others_quiet : (bytes : List ℕ) → AllByRecursion (λ b. is_leading b ≡ false) bytes → AllByRecursion IsQuiet bytes
others_quiet [] all = tt
others_quiet (b ∷ bytes) all = (rw (not_leading b 0x3F refl all.0, not_leading b 0x4B refl all.0) refl, others_quiet bytes all.1)

pub char_quiet : (c : ℕ) → HasNoOwn idle (encode c)
char_quiet c =
    let h : HasShape (encode c) = shape c in
    subst (HasNoOwn idle) (sym h.is) (refl, no_own_by (byte_reader idle h.first) h.more (others_quiet h.more h.others))

-- ---- rows that stay at each byte

module _ (n : ℕ) (wraps : Bool) (P : Screen → Type 0) (Q : Op → Type 0)
    (keeps : (op : Op) (s : Screen) → Q op → P s → (take n (performed_with wraps op s).rows ≡ take n s.rows) × P (performed_with wraps op s)) where
  pub all_keep : (ops : List Op) (s : Screen) → AllByRecursion Q ops → P s → (take n (all_with wraps ops s).rows ≡ take n s.rows) × P (all_with wraps ops s)
  all_keep [] s all p = (refl, p)
  all_keep (op ∷ ops) s all p =
      let h = keeps op s all.0 p in
      let k = all_keep ops (performed_with wraps op s) all.1 h.1 in
      (k.0 ∙ h.0, k.1)

  front_all : (xs ys : List Op) → AllByRecursion Q (xs ++ ys) → AllByRecursion Q xs × AllByRecursion Q ys
  front_all [] ys all = (tt, all)
  front_all (x ∷ xs) ys all = let h = front_all xs ys all.1 in ((all.0, h.0), h.1)

  pub along : (bytes : List ℕ) (r : Reader) (s : Screen) → HasNoOwn r bytes → AllByRecursion Q (ops_of r bytes) → P s →
      StayAlong n (reading wraps s r) bytes
  along [] r s h all p = tt
  along (b ∷ bytes) r s h all p =
      let parts = front_all (byte_ops r b) (ops_of (byte_reader r b) bytes) all in
      let k = all_keep (byte_ops r b) s parts.0 p in
      let e = one_read wraps s r b h.0 in (
        ap (λ m. take n m.terminal.screen.rows) e ∙ k.0,
        subst (λ m. StayAlong n m bytes) (sym e) (along bytes (byte_reader r b) (all_with wraps (byte_ops r b) s) h.1 parts.1 k.1),
      )

-- ---- operations that lead up no row

stays_over : (n c w : ℕ) (s : Screen) → IsBelow n s → Stays n s (put_over c w s)
stays_over n c w s h = cond_both (nat_lt s.columns w) s _ (Stays n s)
    (λ e. stays_same n s h)
    (λ e. let at = stays_column n s s (min s.column (s.columns - w)) (stays_same n s h) in
    let put = stays_here n s (record s { column = min s.column (s.columns - w) }) (record { base = c; joiners = [] }) w at in
    stays_column n s _ _ put)

stays_unwrapped_put : (n c : ℕ) (o : Option ℕ) (s : Screen) → IsBelow n s → Stays n s (put_unwrapped c o s)
stays_unwrapped_put n c None s h = stays_same n s h
stays_unwrapped_put n c (Some w) s h = cond_both (eqb w 0) (put_joiner c s) (put_over c w s) (Stays n s)
    (λ e. stays_with_row n s _ h)
    (λ e. stays_over n c w s h)

stays_with : (n : ℕ) (wraps : Bool) (op : Op) (s : Screen) → IsLevel op → IsBelow n s → Stays n s (performed_with wraps op s)
stays_with n true op s level h = stays_done n s op h level
stays_with n false (Put c) s level h = stays_unwrapped_put n c (char_width false c) s h
stays_with n false Return s level h = stays_done n s Return h level
stays_with n false LineFeed s level h = stays_done n s LineFeed h level
stays_with n false (Up k) s level h = absurd level
stays_with n false (Down k) s level h = stays_done n s (Down k) h level
stays_with n false (Right k) s level h = stays_done n s (Right k) h level
stays_with n false (Left k) s level h = stays_done n s (Left k) h level
stays_with n false EmptyRow s level h = stays_done n s EmptyRow h level

pub level_along : (n : ℕ) (wraps : Bool) (s : Screen) (bytes : List ℕ) (ops : List Op) → HasNoOwn idle bytes → Asks bytes ops → AllByRecursion IsLevel ops → IsBelow n s →
    StayAlong n (mode_resting wraps s) bytes
level_along n wraps s bytes ops h asks level below =
    along n wraps (IsBelow n) IsLevel (λ op s q p. let k = stays_with n wraps op s q p in (k.rows, k.below)) bytes idle s h (subst (AllByRecursion IsLevel) (sym asks.asked) level) below

-- ---- while the wrap is on

on_performed : (ops : List Op) (s : Screen) → all_with true ops s ≡ performed_all ops s
on_performed [] s = refl
on_performed (op ∷ ops) s = on_performed ops (performed op s)

pub on_after : (t : Terminal) (bytes : List ℕ) → HasNoOwn t.reader bytes →
    mode_after (record { terminal = t; wraps = true; private_number = None }) bytes ≡ record { terminal = after t bytes; wraps = true; private_number = None }
on_after t bytes h =
    all_read true t.screen t.reader bytes h ∙ ap (λ s. reading true s (reader_after t.reader bytes)) (on_performed (ops_of t.reader bytes) t.screen)
    ∙ ap (λ u. let m : ModeTerminal = record { terminal = u; wraps = true; private_number = None } in m) (sym (after_is t bytes))

-- what leads up no row leaves the cursor where it is, or below
pub level_row : (wraps : Bool) (ops : List Op) (s : Screen) → AllByRecursion IsLevel ops → s.row < length s.rows → 0 < s.height → s.row ≤ (all_with wraps ops s).row
level_row wraps ops s level in_rows window =
    (all_keep s.row wraps (IsBelow s.row) IsLevel (λ op t q p. let k = stays_with s.row wraps op t q p in (k.rows, k.below)) ops s level
    (record { below = omega arith; in_rows = in_rows; window = window })).1.below

-- ---- the front of a private sequence

ascii_step : (wraps : Bool) (s : Screen) (place : SequencePlace) (b : ℕ) → b < 128 → is_own place b ≡ false →
    step_by None (reading wraps s (record { place = place; spelling = [] })) b ≡ reading wraps (all_with wraps (char_ops place b) s) (record { place = char_place place b; spelling = [] })
ascii_step wraps s place b low outside =
    let r : Reader = record { place = place; spelling = [] } in
    let spells : Spells r (b ∷ []) b = ascii_read r b low in
    let asked : byte_ops r b ≡ char_ops place b = sym (append-nil (byte_ops r b)) ∙ spells.ops in
    one_read wraps s r b outside ∙ ap (λ ops. reading wraps (all_with wraps ops s) (byte_reader r b)) asked
    ∙ ap (reading wraps (all_with wraps (char_ops place b) s)) spells.reader

-- within a private sequence, of which no digit has come
abbrev pub in_private : Bool → Screen → ModeTerminal
in_private wraps s = record { terminal = record { screen = s; reader = idle }; wraps = wraps; private_number = Some (Some 0) }

module _ (wraps : Bool) (s : Screen) where
  first_step : step_by None (mode_resting wraps s) 0x1B ≡ reading wraps s (record { place = Escaped; spelling = [] })
  first_step = ascii_step wraps s OutsideSequence 0x1B (omega arith) refl

  second_step : step_by None (reading wraps s (record { place = Escaped; spelling = [] })) 0x5B ≡ reading wraps s (record { place = Sequence (Some 0); spelling = [] })
  second_step = ascii_step wraps s Escaped 0x5B (omega arith) refl

  pub private_after : (rest : List ℕ) → mode_after (mode_resting wraps s) (0x1B ∷ 0x5B ∷ 0x3F ∷ rest) ≡ mode_after (in_private wraps s) rest
  private_after rest = ap (λ m. mode_after m (0x5B ∷ 0x3F ∷ rest)) first_step ∙ ap (λ m. mode_after m (0x3F ∷ rest)) second_step

  pub private_stays : (n : ℕ) (rest : List ℕ) → StayAlong n (in_private wraps s) rest → StayAlong n (mode_resting wraps s) (0x1B ∷ 0x5B ∷ 0x3F ∷ rest)
  private_stays n rest h = (
    ap (λ m. take n m.terminal.screen.rows) first_step,
    subst (λ m. StayAlong n m (0x5B ∷ 0x3F ∷ rest)) (sym first_step)
        (ap (λ m. take n m.terminal.screen.rows) second_step, subst (λ m. StayAlong n m (0x3F ∷ rest)) (sym second_step) (refl, h)),
  )

  -- ---- the end of a row emptied

  pub end_after : mode_after (mode_resting wraps s) (0x1B ∷ codes "[K") ≡ mode_resting wraps (end_emptied s)
  end_after = ap (λ m. mode_after m (0x5B ∷ 0x4B ∷ [])) first_step ∙ ap (λ m. mode_after m (0x4B ∷ [])) second_step

  pub end_stays : (n : ℕ) → n ≤ s.row → StayAlong n (mode_resting wraps s) (0x1B ∷ codes "[K")
  end_stays n low = (
    ap (λ m. take n m.terminal.screen.rows) first_step,
    subst (λ m. StayAlong n m (0x5B ∷ 0x4B ∷ [])) (sym first_step)
        (ap (λ m. take n m.terminal.screen.rows) second_step, subst (λ m. StayAlong n m (0x4B ∷ [])) (sym second_step) (take-set-le n s.rows s.row _ low, tt)),
  )
