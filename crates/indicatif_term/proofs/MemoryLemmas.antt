-- What a call did to a terminal in memory is told of it as of any terminal; the size stays.
use Rattle.std.proofs.Common.{◌≡◌, ℕ, ◌+◌, ◌%◌, ◌^◌, Bool, true, false, List, [], ◌∷◌, ◌++◌, take, drop, Option, Some, None, refl, sym, ◌∙◌, ap, append_assoc}
use Rattle.std.specs.Prelude.{Result, Ok, Err, OnOk, OnErr, if◌then◌else◌, ◌==◌, nat_lt, nat_le}
use Rattle.std.proofs.lemmas.List.{take-append-drop}
use Rattle.unicode_width.specs.Width.{char_width}
use Rattle.indicatif_term.specs.Screen.{Screen, Op, Put, Return, LineFeed, Up, Down, Right, Left, EmptyRow, performed, put_sized, put_wide, put_joiner, put_here, line_feed}
use Rattle.indicatif_term.specs.Terminal.{Terminal, after}
use Rattle.indicatif_term.specs.Inside.Scanners.{performed_all}
use Rattle.indicatif_term.specs.Feeding.{ops_of}
use Rattle.std.specs.declared.io.ErrorKind.TheVariants.{OutOfMemory}
use Rattle.indicatif_term.specs.Calls.{LeadsOn, BreaksOff, State, move_bytes}
use Rattle.indicatif_term.specs.Cells.{MemoryTerm, view_of}
use Rattle.indicatif_term.specs.Inside.Feeding.{ReadsBeginning}
use Rattle.indicatif_term.proofs.FeedLemmas.{after_screen, after-append, after-nil}

-- ---- the size stays

record SameSize (s t : Screen) : Type 0 where
  columns : s.columns ≡ t.columns
  height : s.height ≡ t.height

same : (s : Screen) → SameSize s s
same s = record { columns = refl; height = refl }

either : (b : Bool) (s t u : Screen) → SameSize s u → SameSize t u → SameSize (if b then s else t) u
either true s t u a b = a
either false s t u a b = b

here_size : (s t : Screen) (c w : ℕ) → SameSize s t → SameSize (put_here (record { base = c; joiners = [] }) w s) t
here_size s t c w a = record { columns = a.columns; height = a.height }

sized : (c : ℕ) (o : Option ℕ) (s : Screen) → SameSize (put_sized c o s) s
sized c None s = same s
sized c (Some w) s =
    either (w == 0) (put_joiner c s) (put_wide c w s) s (record { columns = refl; height = refl })
    (either (nat_lt s.columns w) s (put_here (record { base = c; joiners = [] }) w (if nat_le (s.column + w) s.columns then s else line_feed (record s { column = 0 }))) s (same s)
    (here_size (if nat_le (s.column + w) s.columns then s else line_feed (record s { column = 0 })) s c w
    (either (nat_le (s.column + w) s.columns) s (line_feed (record s { column = 0 })) s (same s) (record { columns = refl; height = refl }))))

performed_size : (op : Op) (s : Screen) → SameSize (performed op s) s
performed_size (Put c) s = sized c (char_width false c) s
performed_size Return s = record { columns = refl; height = refl }
performed_size LineFeed s = record { columns = refl; height = refl }
performed_size (Up n) s = record { columns = refl; height = refl }
performed_size (Down n) s = record { columns = refl; height = refl }
performed_size (Right n) s = either (s.column == s.columns) s _ s (same s) (record { columns = refl; height = refl })
performed_size (Left n) s = record { columns = refl; height = refl }
performed_size EmptyRow s = record { columns = refl; height = refl }

all_size : (ops : List Op) (s : Screen) → SameSize (performed_all ops s) s
all_size [] s = same s
all_size (op ∷ ops) s =
    let rest = all_size ops (performed op s) in
    let first = performed_size op s in
    record { columns = rest.columns ∙ first.columns; height = rest.height ∙ first.height }

after_size : (t : Terminal) (bytes : List ℕ) → SameSize (after t bytes).screen t.screen
after_size t bytes = rw (after_screen t bytes) (all_size (ops_of t.reader bytes) t.screen)

-- ---- a beginning of bytes

pub begins_none : (bytes : List ℕ) (t : Terminal) → ReadsBeginning bytes t t
begins_none bytes t = record { front = []; rest = bytes; whole = refl; is = sym (after-nil t) }

pub begins_at : (bytes : List ℕ) (n : ℕ) (t new : Terminal) → new ≡ after t (take n bytes) → ReadsBeginning bytes t new
begins_at bytes n t new e = record { front = take n bytes; rest = drop n bytes; whole = take-append-drop n bytes; is = e }

pub begins_first : (xs ys : List ℕ) (t new : Terminal) → ReadsBeginning xs t new → ReadsBeginning (xs ++ ys) t new
begins_first xs ys t new r = record {
  front = r.front;
  rest = r.rest ++ ys;
  whole = sym (append_assoc r.front r.rest ys) ∙ ap (λ zs. zs ++ ys) r.whole;
  is = r.is;
}

pub begins_second : (xs ys : List ℕ) (t middle new : Terminal) → middle ≡ after t xs → ReadsBeginning ys middle new → ReadsBeginning (xs ++ ys) t new
begins_second xs ys t middle new e r = record {
  front = xs ++ r.front;
  rest = r.rest;
  whole = append_assoc xs r.front r.rest ∙ ap (λ zs. xs ++ zs) r.whole;
  is = r.is ∙ ap (λ u. after u r.front) e ∙ sym (after-append t xs r.front);
}

pub read_both : (xs ys : List ℕ) (t middle new : Terminal) → middle ≡ after t xs → new ≡ after middle ys → new ≡ after t (xs ++ ys)
read_both xs ys t middle new e e' = e' ∙ ap (λ u. after u ys) e ∙ sym (after-append t xs ys)

-- ---- what it tells

pub leads_on : (old new : MemoryTerm) (bytes : List ℕ) → new.terminal ≡ after old.terminal bytes → new.faults ≡ old.faults → LeadsOn bytes (view_of old) (view_of new)
leads_on old new bytes e f =
    let size = after_size old.terminal bytes in
    record {
      told_is = λ h. ap (λ t. State t) e;
      columns_are = ap (λ t. t.screen.columns) e ∙ size.columns;
      rows_are = ap (λ t. t.screen.height) e ∙ size.height;
      faults_are = f;
      kind_is = refl;
    }

pub breaks_off : (old new : MemoryTerm) (bytes : List ℕ) → ReadsBeginning bytes old.terminal new.terminal → new.faults ≡ (old.faults + 1) % 2 ^ 64 →
    BreaksOff bytes OutOfMemory (view_of old) (view_of new)
breaks_off old new bytes r f =
    let size = after_size old.terminal r.front in
    record {
      front = r.front;
      rest = r.rest;
      whole = r.whole;
      told_is = λ h. ap (λ t. State t) r.is;
      columns_are = ap (λ t. t.screen.columns) r.is ∙ size.columns;
      rows_are = ap (λ t. t.screen.height) r.is ∙ size.height;
      faults_are = f;
      kind_is = refl;
    }

-- a move by 0
pub stays_put : (m : MemoryTerm) (letter n : ℕ) → n ≡ 0 → LeadsOn (move_bytes letter n) (view_of m) (view_of m)
stays_put m letter n e =
    let none : move_bytes letter n ≡ [] = ap (move_bytes letter) e in
    leads_on m m (move_bytes letter n) (sym (ap (after m.terminal) none ∙ after-nil m.terminal)) refl

-- ---- a fact under an answer

pub under_err : {T E : Type 0} {P Q : Type 0} (r : Result T E) → (P → Q) → OnErr r P → OnErr r Q
under_err (Ok x) f h = tt
under_err (Err e) f h = f h

pub at_err : {T E : Type 0} {P : Type 0} (r : Result T E) → P → OnErr r P
at_err (Ok x) p = tt
at_err (Err e) p = p

pub under_ok : {T E : Type 0} {P Q : Type 0} (r : Result T E) → (P → Q) → OnOk r P → OnOk r Q
under_ok (Ok x) f h = f h
under_ok (Err e) f h = tt
