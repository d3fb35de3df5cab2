-- Bytes fed in two parts lead where they lead at once.
use Rattle.std.proofs.Common.{◌≡◌, ℕ, List, [], ◌∷◌, ◌++◌, refl, sym, ◌∙◌, ap, append_assoc, Option, Some, None}
use Rattle.std.specs.Prelude.{option_to_list}
use Rattle.std.specs.Option.{option_map_or}
use Rattle.indicatif_term.specs.Screen.{Screen, Op, performed}
use Rattle.indicatif_term.specs.Terminal.{Terminal, Reader, byte_step, after}
use Rattle.indicatif_term.specs.Inside.Scanners.{byte_reader, performed_all, byte_ops, reader_after}
use Rattle.indicatif_term.specs.Feeding.{ops_of}

pub ops_of-append : (r : Reader) (xs ys : List ℕ) → ops_of r (xs ++ ys) ≡ ops_of r xs ++ ops_of (reader_after r xs) ys
ops_of-append r [] ys = refl
ops_of-append r (x ∷ xs) ys =
    ap (λ ops. byte_ops r x ++ ops) (ops_of-append (byte_reader r x) xs ys)
    ∙ sym (append_assoc (byte_ops r x) (ops_of (byte_reader r x) xs) (ops_of (reader_after (byte_reader r x) xs) ys))

pub reader_after-append : (r : Reader) (xs ys : List ℕ) → reader_after r (xs ++ ys) ≡ reader_after (reader_after r xs) ys
reader_after-append r [] ys = refl
reader_after-append r (x ∷ xs) ys = reader_after-append (byte_reader r x) xs ys

asked_first : (o : Option Op) (ops : List Op) (s : Screen) → performed_all ops (option_map_or (λ op. performed op s) o s) ≡ performed_all (option_to_list o ++ ops) s
asked_first None ops s = refl
asked_first (Some op) ops s = refl

pub performed_all-append : (xs ys : List Op) (s : Screen) → performed_all (xs ++ ys) s ≡ performed_all ys (performed_all xs s)
performed_all-append [] ys s = refl
performed_all-append (x ∷ xs) ys s = performed_all-append xs ys (performed x s)

pub same_terminal : (s s' : Screen) (r r' : Reader) → s ≡ s' → r ≡ r' → ◌≡◌ {A = Terminal} (record { screen = s; reader = r }) (record { screen = s'; reader = r' })
same_terminal s s' r r' e e' = cc

-- the terminal after bytes: the screen after all that they ask for, and the reader after them
pub after_is : (t : Terminal) (bytes : List ℕ) → after t bytes ≡ record { screen = performed_all (ops_of t.reader bytes) t.screen; reader = reader_after t.reader bytes }
unfolding after
after_is t [] = refl
after_is t (b ∷ bytes) =
    let step = byte_step t.reader b in
    after_is (record { screen = option_map_or (λ op. performed op t.screen) step.0 t.screen; reader = step.1 }) bytes
    ∙ same_terminal _ _ _ _ (asked_first step.0 (ops_of step.1 bytes) t.screen) refl

pub after_screen : (t : Terminal) (bytes : List ℕ) → (after t bytes).screen ≡ performed_all (ops_of t.reader bytes) t.screen
after_screen t bytes = ap (λ u. u.screen) (after_is t bytes)

pub after_reader : (t : Terminal) (bytes : List ℕ) → (after t bytes).reader ≡ reader_after t.reader bytes
after_reader t bytes = ap (λ u. u.reader) (after_is t bytes)

-- any cut of the bytes gives the same terminal
pub after-append : (t : Terminal) (xs ys : List ℕ) → after t (xs ++ ys) ≡ after (after t xs) ys
unfolding after
after-append t [] ys = refl
after-append t (x ∷ xs) ys =
    let step = byte_step t.reader x in
    after-append (record { screen = option_map_or (λ op. performed op t.screen) step.0 t.screen; reader = step.1 }) xs ys

pub after-nil : (t : Terminal) → after t [] ≡ t
unfolding after
after-nil t = refl

-- bytes that ask for these operations
pub fed : (t : Terminal) (bytes : List ℕ) (s : Screen) (r : Reader) → s ≡ performed_all (ops_of t.reader bytes) t.screen → r ≡ reader_after t.reader bytes →
    ◌≡◌ {A = Terminal} (record { screen = s; reader = r }) (after t bytes)
fed t bytes s r is next = same_terminal _ _ _ _ is next ∙ sym (after_is t bytes)

-- a byte that asks for an operation, and one that asks for none
pub fed_one : (t : Terminal) (b : ℕ) (op : Op) (s : Screen) (r : Reader) → op ∷ [] ≡ byte_ops t.reader b → s ≡ performed op t.screen → r ≡ byte_reader t.reader b →
    ◌≡◌ {A = Terminal} (record { screen = s; reader = r }) (after t (b ∷ []))
fed_one t b op s r asked is next = fed t (b ∷ []) s r (is ∙ ap (λ ops. performed_all (ops ++ []) t.screen) asked) next

pub fed_none : (t : Terminal) (b : ℕ) (r : Reader) → [] ≡ byte_ops t.reader b → r ≡ byte_reader t.reader b →
    ◌≡◌ {A = Terminal} (record { screen = t.screen; reader = r }) (after t (b ∷ []))
fed_none t b r asked next = fed t (b ∷ []) t.screen r (ap (λ ops. performed_all (ops ++ []) t.screen) asked) next
