-- The laws of the pieces of every text.
use Rattle.std.proofs.Common.{◌≡◌, ℕ, zero, suc, ◌+◌, ◌-◌, ◌≤◌, Bool, true, false, List, [], ◌∷◌, ◌++◌, length, take, drop, Option, Some, None, refl, sym, ◌∙◌, ap, subst, arith, take-append-drop, if◌then◌else◌, eqb}
use Rattle.std.specs.Prelude.{◌==◌, ◌&&◌, flat_map, option_map, is_some, unwrap_or}
use Rattle.std.specs.List.{AllByRecursion}
use Rattle.std.proofs.lemmas.List.Elements.{All-from_recursion}
use Rattle.indicatif_text.specs.Columns.{colour_length, parameters_length, is_parameter, visible, visible_from}
use Rattle.indicatif_text.proofs.ColourSequenceLemmas.{hidden, visible_none}
use Rattle.indicatif_text.specs.Pieces.{TextPiece, Run, Colour, joined_to, pieces_from, pieces_of_text}
use Rattle.indicatif_text.specs.PieceLaws.{piece_text, run_text, PiecesJoin, RunsAreVisible, IsExact, PiecesAreExact, IsNoEmptyPiece, NoEmptyPieces, NoRunsAdjoin, RunsAreLongest}

-- ---- sequences by their rules

-- n characters of parameters and the `m` that ends them stand in front
pub data Parameters : List ℕ → ℕ → Type 0 where
  Ended : (c : ℕ) (cs : List ℕ) → eqb c 0x6D ≡ true → Parameters (c ∷ cs) 1
  Further : (c n : ℕ) (cs : List ℕ) → eqb c 0x6D ≡ false → is_parameter c ≡ true → Parameters cs n → Parameters (c ∷ cs) (suc n)

-- a colour sequence of n characters stands in front
pub data Sequence : List ℕ → ℕ → Type 0 where
  Opened : (c d n : ℕ) (cs : List ℕ) → ((c == 0x1B) && (d == 0x5B)) ≡ true → Parameters cs n → Sequence (c ∷ d ∷ cs) (suc (suc n))

parameters_by : (c : ℕ) (cs : List ℕ) (a b : Bool) (o : Option ℕ) (n : ℕ) → eqb c 0x6D ≡ a → is_parameter c ≡ b → parameters_length cs ≡ o
    → ((k : ℕ) → parameters_length cs ≡ Some k → Parameters cs k) → (if a then Some 1 else if b then option_map (λ n. n + 1) o else None) ≡ Some n → Parameters (c ∷ cs) n
parameters_by c cs true b o n ended is at rest e = let one : 1 ≡ n = cc e in subst (Parameters (c ∷ cs)) one (Ended c cs ended)
parameters_by c cs false true (Some k) n ended is at rest e =
    let one : k + 1 ≡ n = cc e in
    let next : suc k ≡ n = omega (arith, one) in
    subst (Parameters (c ∷ cs)) next (Further c k cs ended is (rest k at))
parameters_by c cs false true None n ended is at rest e = absurd (cc e)
parameters_by c cs false false o n ended is at rest e = absurd (cc e)

parameters_from : (cs : List ℕ) (n : ℕ) → parameters_length cs ≡ Some n → Parameters cs n
parameters_from [] n e = absurd (cc e)
parameters_from (c ∷ cs) n e = parameters_by c cs (eqb c 0x6D) (is_parameter c) (parameters_length cs) n refl refl refl (parameters_from cs) e

parameters_is : {cs : List ℕ} {n : ℕ} → Parameters cs n → parameters_length cs ≡ Some n
parameters_is (Ended c cs ended) = rw ended refl
parameters_is (Further c k cs other is rest) = rw (other, is) (ap (option_map (λ n. n + 1)) (parameters_is rest) ∙ ap Some (let e : k + 1 ≡ suc k = omega arith in e))

parameters_taken : {cs : List ℕ} {n : ℕ} → Parameters cs n → Parameters (take n cs) n × (length (take n cs) ≡ n)
parameters_taken (Ended c cs ended) = (Ended c [] ended, refl)
parameters_taken (Further c k cs other is rest) =
    let t = parameters_taken rest in
    (Further c k (take k cs) other is t.0, ap suc t.1)

parameters_before : (more : List ℕ) {cs : List ℕ} {n : ℕ} → Parameters cs n → Parameters (cs ++ more) n
parameters_before more (Ended c cs ended) = Ended c (cs ++ more) ended
parameters_before more (Further c k cs other is rest) = Further c k (cs ++ more) other is (parameters_before more rest)

sequence_by : (c d : ℕ) (cs : List ℕ) (b : Bool) (o : Option ℕ) (n : ℕ) → ((c == 0x1B) && (d == 0x5B)) ≡ b → parameters_length cs ≡ o
    → (if b then option_map (λ n. n + 2) o else None) ≡ Some n → Sequence (c ∷ d ∷ cs) n
sequence_by c d cs true (Some k) n opened at e =
    let two : k + 2 ≡ n = cc e in
    let next : suc (suc k) ≡ n = omega (arith, two) in
    subst (Sequence (c ∷ d ∷ cs)) next (Opened c d k cs opened (parameters_from cs k at))
sequence_by c d cs true None n opened at e = absurd (cc e)
sequence_by c d cs false o n opened at e = absurd (cc e)

pub sequence_from : (cs : List ℕ) (n : ℕ) → colour_length cs ≡ Some n → Sequence cs n
sequence_from [] n e = absurd (cc e)
sequence_from (c ∷ []) n e = absurd (cc e)
sequence_from (c ∷ d ∷ cs) n e = sequence_by c d cs ((c == 0x1B) && (d == 0x5B)) (parameters_length cs) n refl refl e

pub sequence_is : {cs : List ℕ} {n : ℕ} → Sequence cs n → colour_length cs ≡ Some n
sequence_is (Opened c d k cs opened rest) =
    ap (λ b. if b then option_map (λ n. n + 2) (parameters_length cs) else None) opened
    ∙ ap (option_map (λ n. n + 2)) (parameters_is rest) ∙ ap Some (let e : k + 2 ≡ suc (suc k) = omega arith in e)

-- the sequence in front, and nothing else
pub sequence_taken : {cs : List ℕ} {n : ℕ} → Sequence cs n → Sequence (take n cs) n × (length (take n cs) ≡ n)
sequence_taken (Opened c d k cs opened rest) =
    let t = parameters_taken rest in
    (Opened c d k (take k cs) opened t.0, ap (λ n. suc (suc n)) t.1)

pub sequence_before : (more : List ℕ) {cs : List ℕ} {n : ℕ} → Sequence cs n → Sequence (cs ++ more) n
sequence_before more (Opened c d k cs opened rest) = Opened c d k (cs ++ more) opened (parameters_before more rest)

-- a text that begins with none has no beginning that does
none_by : (cs more : List ℕ) (o : Option ℕ) → colour_length cs ≡ o → colour_length (cs ++ more) ≡ None → o ≡ None
none_by cs more None at e = refl
none_by cs more (Some n) at e = absurd (let other : ◌≡◌ {A = Option ℕ} None (Some n) = sym e ∙ sequence_is (sequence_before more (sequence_from cs n at)) in cc other)

pub none_before : (cs more : List ℕ) → colour_length (cs ++ more) ≡ None → colour_length cs ≡ None
none_before cs more e = none_by cs more (colour_length cs) refl e

sequence_some : {cs : List ℕ} {n : ℕ} → Sequence cs n → ◌≡◌ (take n cs) [] → ⊥
sequence_some (Opened c d k cs opened rest) e = cc e

-- ---- what a character or a sequence in front makes of what is visible

pub visible_past : (c : ℕ) (cs : List ℕ) → colour_length (c ∷ cs) ≡ None → c ∷ visible cs ≡ visible (c ∷ cs)
unfolding visible
visible_past c cs e = sym (ap (λ o. if is_some o then visible_from (unwrap_or o 1 - 1) cs else c ∷ visible_from 0 cs) e)

visible_hidden : {cs : List ℕ} {n : ℕ} → Sequence cs n → visible (drop n cs) ≡ visible cs
visible_hidden (Opened c d k cs opened rest) = sym (hidden (suc (suc k)) (c ∷ d ∷ cs) (sequence_is (Opened c d k cs opened rest)) (omega arith))

after_front : (n c : ℕ) (cs : List ℕ) → 1 ≤ n → drop (n - 1) cs ≡ drop n (c ∷ cs)
after_front zero c cs some = absurd (omega arith)
after_front (suc n) c cs some = ap (λ j. drop j cs) (let e : suc n - 1 ≡ n = omega arith in e)

pub sequence_length : {cs : List ℕ} {n : ℕ} → Sequence cs n → 1 ≤ n
sequence_length (Opened c d k cs opened rest) = omega arith

-- ---- a law of pieces, from what it is of a character in front and of a sequence in front

module _ (P : List ℕ → List TextPiece → Type 0) (none : P [] [])
    (joined : (c : ℕ) (cs : List ℕ) (ps : List TextPiece) → colour_length (c ∷ cs) ≡ None → P cs ps → P (c ∷ cs) (joined_to c ps))
    (coloured : (n : ℕ) (cs : List ℕ) (ps : List TextPiece) → Sequence cs n → P (drop n cs) ps → P cs (Colour (take n cs) ∷ ps)) where
  by_front : (n : ℕ) (cs : List ℕ) → P (drop n cs) (pieces_from n cs)
  by_front zero [] = none
  by_front (suc n) [] = none
  by_front (suc n) (c ∷ cs) = by_front n cs
  by_front zero (c ∷ cs) =
      let Q : Option ℕ → Type 0 = λ o. colour_length (c ∷ cs) ≡ o → P (c ∷ cs) (elim o [ None ↦ joined_to c (pieces_from 0 cs) | Some n ↦ Colour (take n (c ∷ cs)) ∷ pieces_from (n - 1) cs ]) in
      let at : (o : Option ℕ) → Q o = λ o. elim o as Q [
        | None ↦ λ e. joined c cs (pieces_from 0 cs) e (by_front 0 cs)
        | Some n ↦ λ e. coloured n (c ∷ cs) (pieces_from (n - 1) cs) (sequence_from (c ∷ cs) n e)
            (subst (λ ds. P ds (pieces_from (n - 1) cs)) (after_front n c cs (sequence_length (sequence_from (c ∷ cs) n e))) (by_front (n - 1) cs))
      ] in
      at (colour_length (c ∷ cs)) refl

  pub by_pieces : (text : List ℕ) → P text (pieces_of_text text)
  unfolding pieces_of_text
  by_pieces text = by_front 0 text

-- ---- the laws

joins : (c : ℕ) (cs : List ℕ) (ps : List TextPiece) → flat_map piece_text ps ≡ cs → flat_map piece_text (joined_to c ps) ≡ c ∷ cs
joins c cs [] e = ap (λ x. c ∷ x) e
joins c cs (Run text ∷ ps) e = ap (λ x. c ∷ x) e
joins c cs (Colour sequence ∷ ps) e = ap (λ x. c ∷ x) e

pub pieces_join : PiecesJoin
pieces_join = by_pieces (λ cs ps. flat_map piece_text ps ≡ cs) refl (λ c cs ps e same. joins c cs ps same)
    (λ n cs ps s same. ap (λ x. take n cs ++ x) same ∙ take-append-drop n cs)

shows : (c : ℕ) (ps : List TextPiece) → flat_map run_text (joined_to c ps) ≡ c ∷ flat_map run_text ps
shows c [] = refl
shows c (Run text ∷ ps) = refl
shows c (Colour sequence ∷ ps) = refl

pub runs_are_visible : RunsAreVisible
runs_are_visible = by_pieces (λ cs ps. flat_map run_text ps ≡ visible cs) (sym visible_none) (λ c cs ps e same. shows c ps ∙ ap (λ x. c ∷ x) same ∙ visible_past c cs e)
    (λ n cs ps s same. same ∙ visible_hidden s)

pub none_of_empty : (place : ℕ) → colour_length (drop place []) ≡ None
none_of_empty zero = refl
none_of_empty (suc place) = refl

one_exact : (c : ℕ) → IsExact (Run (c ∷ []))
one_exact c zero = refl
one_exact c (suc place) = none_of_empty place

longer_exact : (c : ℕ) (text : List ℕ) → colour_length (c ∷ text) ≡ None → IsExact (Run text) → IsExact (Run (c ∷ text))
longer_exact c text e exact zero = e
longer_exact c text e exact (suc place) = exact place

-- the pieces of a text, each exact
pub record Exact (cs : List ℕ) (ps : List TextPiece) : Type 0 where
  pub joined : flat_map piece_text ps ≡ cs
  pub exact : AllByRecursion IsExact ps

exact_joined : (c : ℕ) (cs : List ℕ) (ps : List TextPiece) → colour_length (c ∷ cs) ≡ None → Exact cs ps → AllByRecursion IsExact (joined_to c ps)
exact_joined c cs [] e x = (one_exact c, tt)
exact_joined c cs (Run text ∷ ps) e x =
    (longer_exact c text (none_before (c ∷ text) (flat_map piece_text ps) (ap (λ y. colour_length (c ∷ y)) x.joined ∙ e)) x.exact.0, x.exact.1)
exact_joined c cs (Colour sequence ∷ ps) e x = (one_exact c, x.exact)

pub all_exact : (text : List ℕ) → Exact text (pieces_of_text text)
all_exact = by_pieces Exact (record { joined = refl; exact = tt })
    (λ c cs ps e x. record { joined = joins c cs ps x.joined; exact = exact_joined c cs ps e x })
    (λ n cs ps s x.
    let t = sequence_taken s in
    record {
      joined = ap (λ y. take n cs ++ y) x.joined ∙ take-append-drop n cs;
      exact = (sequence_is t.0 ∙ ap Some (sym t.1), x.exact);
    })

pub pieces_are_exact : PiecesAreExact
pieces_are_exact text = All-from_recursion IsExact (pieces_of_text text) (all_exact text).exact

filled : (c : ℕ) (ps : List TextPiece) → AllByRecursion IsNoEmptyPiece ps → AllByRecursion IsNoEmptyPiece (joined_to c ps)
filled c [] x = ((λ e. cc e), tt)
filled c (Run text ∷ ps) x = ((λ e. cc e), x.1)
filled c (Colour sequence ∷ ps) x = ((λ e. cc e), x)

pub no_empty_pieces : NoEmptyPieces
no_empty_pieces text = All-from_recursion IsNoEmptyPiece (pieces_of_text text)
    (by_pieces (λ cs ps. AllByRecursion IsNoEmptyPiece ps) tt (λ c cs ps e x. filled c ps x) (λ n cs ps s x. ((λ e. sequence_some s e), x)) text)

apart : (c : ℕ) (ps : List TextPiece) → NoRunsAdjoin ps → NoRunsAdjoin (joined_to c ps)
apart c [] x = tt
apart c (Colour sequence ∷ ps) x = x
apart c (Run text ∷ []) x = tt
apart c (Run text ∷ Run next ∷ ps) x = x
apart c (Run text ∷ Colour sequence ∷ ps) x = x

pub runs_are_longest : RunsAreLongest
runs_are_longest = by_pieces (λ cs ps. NoRunsAdjoin ps) tt (λ c cs ps e x. apart c ps x) (λ n cs ps s x. x)
