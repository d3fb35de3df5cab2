-- New lines in the place of those that stand.
use Rattle.std.proofs.Common.{◌≡◌, ◌≢◌, ℕ, zero, suc, ◌+◌, ◌<◌, ◌≤◌, true, false, List, [], ◌∷◌, ◌++◌, length, take, drop, map, set, refl, sym, ◌∙◌, ap, subst, arith, chars, get_or}
use Rattle.std.specs.Prelude.{IsTrue, string_bytes, slice_set}
use Rattle.std.specs.List.{AllByRecursion}
use Rattle.std.proofs.lemmas.List.{take_at, drop_at, take_more, take_more_set, length-map, length-set, get_or-set_other, get_or-map, set_comm, take-map, drop-map, length-take-le, get_or-take}
use Rattle.indicatif_text.specs.Columns.{Cell, rows_of, has_wide, last_columns}
use Rattle.indicatif_term.specs.Shows.{look, looks_of}
use Rattle.indicatif_term.specs.Standing.{placed, texts, standing_rows, IsLine, AreLines, AreReady}
use Rattle.indicatif_term.specs.Inside.Inks.{IsRead}
use Rattle.indicatif_term.specs.Inside.Parting.{IsTurned, IsReady, change_of, waits_of}
use Rattle.indicatif_term.specs.declared.engine.comparing.Step.TheVariants.{Leave}
use Rattle.indicatif_term.specs.Inside.Changing.{Becomes, Ends, AreSitting}
use Rattle.indicatif_term.specs.Inside.Renewed.{IsNew, heights, FitsIn, AreFitting, AreFittingFrom, renewed, AreInPlace, IsOver, AreOver}
use Rattle.indicatif_term.specs.Inside.Layouts.{AreWhole}
use Rattle.indicatif_term.specs.declared.engine.remembered.StandingLine.{StandingLine}
use Rattle.indicatif_term.specs.declared.engine.beside.NewLine.{NewLine}
use Rattle.std.proofs.Math.Seq.{take-set-lt}

-- ---- new lines in the place of others

pub fits_more : (w : ℕ) (on : List StandingLine) (from m n : ℕ) (new : List NewLine) → m ≤ n → AreFittingFrom w on from m new → AreFittingFrom w on from n new
fits_more w on from m n [] h f = tt
fits_more w on from m n (x ∷ new) h f = (f.0, (omega (arith, f.1.0, h), f.1.1), fits_more w on (suc x.at) m n new h f.2)

-- a new line below all others
pub fits_push : (w : ℕ) (on : List StandingLine) (from m n : ℕ) (new : List NewLine) (x : NewLine) → AreFittingFrom w on from m new → from ≤ x.at → m ≤ x.at → m ≤ n → FitsIn w on n x →
    AreFittingFrom w on from n (new ++ x ∷ [])
fits_push w on from m n [] x f h k l g = (h, g, tt)
fits_push w on from m n (y ∷ new) x f h k l g = (f.0, (omega (arith, f.1.0, l), f.1.1), fits_push w on (suc y.at) m n new x f.2 (omega (arith, f.1.0, k)) k l g)

-- the others stand above the last
pub fits_front : (w : ℕ) (on : List StandingLine) (from n : ℕ) (new : List NewLine) (x : NewLine) → AreFittingFrom w on from n (new ++ x ∷ []) →
    AreFittingFrom w on from x.at new × FitsIn w on n x × (from ≤ x.at)
fits_front w on from n [] x f = (tt, f.1, f.0)
fits_front w on from n (y ∷ new) x f =
    let r = fits_front w on (suc y.at) n new x f.2 in
    ((f.0, (omega (arith, r.2), f.1.1), r.0), r.1, omega (arith, f.0, r.2))

pub renewed-length : (ts : List (List ℕ)) (new : List NewLine) → length (renewed ts new) ≡ length ts
renewed-length ts [] = refl
renewed-length ts (n ∷ new) = length-set (renewed ts new) n.at (string_bytes n.text) ∙ renewed-length ts new

pub renewed-push : (ts : List (List ℕ)) (new : List NewLine) (x : NewLine) → renewed ts (new ++ x ∷ []) ≡ renewed (set ts x.at (string_bytes x.text)) new
renewed-push ts [] x = refl
renewed-push ts (n ∷ new) x = ap (λ ys. set ys n.at (string_bytes n.text)) (renewed-push ts new x)

renewed-set : (w : ℕ) (on : List StandingLine) (from k i : ℕ) (ts : List (List ℕ)) (t : List ℕ) (new : List NewLine) → AreFittingFrom w on from k new → k ≤ i →
    renewed (set ts i t) new ≡ set (renewed ts new) i t
renewed-set w on from k i ts t [] f h = refl
renewed-set w on from k i ts t (n ∷ new) f h =
    let lower : n.at < k = f.1.0 in
    let other : i ≢ n.at = λ e. absurd (omega (arith, lower, h, e)) in
    ap (λ ys. set ys n.at (string_bytes n.text)) (renewed-set w on (suc n.at) k i ts t new f.2 h) ∙ set_comm (renewed ts new) i n.at t (string_bytes n.text) other

renewed-other : (w : ℕ) (on : List StandingLine) (from k i : ℕ) (ts : List (List ℕ)) (d : List ℕ) (new : List NewLine) → AreFittingFrom w on from k new → k ≤ i →
    get_or (renewed ts new) i d ≡ get_or ts i d
renewed-other w on from k i ts d [] f h = refl
renewed-other w on from k i ts d (n ∷ new) f h =
    let lower : n.at < k = f.1.0 in
    let other : i ≢ n.at = λ e. absurd (omega (arith, lower, h, e)) in
    get_or-set_other (renewed ts new) n.at i (string_bytes n.text) d other ∙ renewed-other w on (suc n.at) k i ts d new f.2 h

-- one more of the lines that stand: it is the same, or a new one comes in its place
module _ (w : ℕ) (on : List StandingLine) (at : ℕ) (x : StandingLine) (text : List ℕ) (new : List NewLine) (h : at < length on) (e : get_or on at x ≡ x) (f : AreFitting w on at new) where
  abbrev bytes : StandingLine → List ℕ
  bytes = λ (l : StandingLine). string_bytes l.text

  size : length (renewed (texts on) new) ≡ length on
  size = renewed-length (texts on) new ∙ length-map on bytes

  pub same_texts : string_bytes x.text ≡ text → take (at + 1) (renewed (texts on) new) ≡ take at (renewed (texts on) new) ++ text ∷ []
  same_texts t = take_more (renewed (texts on) new) at (bytes x) (omega (arith, h, size))
      ∙ ap (λ y. take at (renewed (texts on) new) ++ y ∷ []) (renewed-other w on 0 at at (texts on) (bytes x) new f (omega arith)
      ∙ get_or-map bytes on at x (bytes x) h ∙ ap bytes e ∙ t)

  pub new_fits : (n : NewLine) → IsNew w at x.rows (bytes x) text n → AreFitting w on (at + 1) (new ++ n ∷ [])
  new_fits n is =
      let rows : get_or (heights on) n.at 0 ≡ x.rows = ap (λ i. get_or (heights on) i 0) is.at_is ∙ get_or-map (λ (l : StandingLine). l.rows) on at x 0 h ∙ ap (λ (l : StandingLine). l.rows) e in
      let old : get_or (texts on) n.at [] ≡ bytes x = ap (λ i. get_or (texts on) i []) is.at_is ∙ get_or-map bytes on at x [] h ∙ ap bytes e in
      let own : IsNew w n.at (get_or (heights on) n.at 0) (get_or (texts on) n.at []) (string_bytes n.text) n = record {
        at_is = refl;
        text_is = refl;
        rows_are = rows ∙ is.rows_are ∙ ap (λ y. length (rows_of w (chars y))) (sym is.text_is);
        last_is = is.last_is ∙ ap (λ y. last_columns w (chars y)) (sym is.text_is);
        narrow = ap (λ y. has_wide w (chars y)) is.text_is ∙ is.narrow;
        single = λ q. subst (λ y. IsRead (chars y)) (sym is.text_is) (is.single q);
        turned = subst (λ o. IsTurned w n.turn.step o (string_bytes n.text)) (sym old) (subst (IsTurned w n.turn.step (bytes x)) (sym is.text_is) is.turned);
      } in
      let here : n.at ≡ at = is.at_is in
      fits_push w on 0 at (at + 1) new n f (omega arith) (omega (arith, here)) (omega arith) (omega (arith, here), own)

  pub new_texts : (n : NewLine) → IsNew w at x.rows (bytes x) text n → take (at + 1) (renewed (texts on) (new ++ n ∷ [])) ≡ take at (renewed (texts on) new) ++ text ∷ []
  new_texts n is =
      ap (take (at + 1)) (renewed-push (texts on) new n ∙ ap (λ i. renewed (set (texts on) i (string_bytes n.text)) new) is.at_is
      ∙ renewed-set w on 0 at at (texts on) (string_bytes n.text) new f (omega arith))
      ∙ take_more_set (renewed (texts on) new) at (string_bytes n.text) (omega (arith, h, size))
      ∙ ap (λ y. take at (renewed (texts on) new) ++ y ∷ []) is.text_is

-- new lines in the place of the first so many
pub none_fit : (w : ℕ) (on : List StandingLine) (from : ℕ) (new : List NewLine) → AreFittingFrom w on from 0 new → new ≡ []
none_fit w on from [] f = refl
none_fit w on from (n ∷ new) f = absurd (omega (arith, f.1.0))

fits_first : (w : ℕ) (on : List StandingLine) (from at : ℕ) (new : List NewLine) → at ≤ length on → AreFittingFrom w on from at new → AreFittingFrom w (take at on) from (length (take at on)) new
fits_first w on from at [] h f = tt
fits_first w on from at (n ∷ new) h f =
    let bytes = λ (l : StandingLine). string_bytes l.text in
    let rows = λ (l : StandingLine). l.rows in
    let size : length (take at on) ≡ at = length-take-le at on h in
    let same_rows : get_or (heights on) n.at 0 ≡ get_or (heights (take at on)) n.at 0 = sym (ap (λ xs. get_or xs n.at 0) (sym (take-map rows at on)) ∙ get_or-take at (heights on) n.at 0 f.1.0) in
    let same_text : get_or (texts on) n.at [] ≡ get_or (texts (take at on)) n.at [] = sym (ap (λ xs. get_or xs n.at []) (sym (take-map bytes at on)) ∙ get_or-take at (texts on) n.at [] f.1.0) in (
      f.0,
      (
        omega (arith, size, f.1.0),
        subst (λ r. IsNew w n.at r (get_or (texts (take at on)) n.at []) (string_bytes n.text) n) same_rows
            (subst (λ o. IsNew w n.at (get_or (heights on) n.at 0) o (string_bytes n.text) n) same_text f.1.1),
      ),
      fits_first w on (suc n.at) at new h f.2,
    )

pub fits_taken : (w : ℕ) (on : List StandingLine) (at : ℕ) (new : List NewLine) → at ≤ length on → AreFitting w on at new → AreFitting w (take at on) (length (take at on)) new
fits_taken w on at new h f = fits_first w on 0 at new h f

first_renewed : (w : ℕ) (on : List StandingLine) (from at : ℕ) (ts : List (List ℕ)) (new : List NewLine) → AreFittingFrom w on from at new → renewed (take at ts) new ≡ take at (renewed ts new)
first_renewed w on from at ts [] f = refl
first_renewed w on from at ts (n ∷ new) f =
    ap (λ xs. set xs n.at (string_bytes n.text)) (first_renewed w on (suc n.at) at ts new f.2) ∙ sym (take-set-lt at (renewed ts new) n.at (string_bytes n.text) f.1.0)

pub renewed_taken : (w : ℕ) (on : List StandingLine) (at : ℕ) (new : List NewLine) → AreFitting w on at new → renewed (texts (take at on)) new ≡ take at (renewed (texts on) new)
renewed_taken w on at new f = ap (λ ts. renewed ts new) (sym (take-map (λ (l : StandingLine). string_bytes l.text) at on)) ∙ first_renewed w on 0 at (texts on) new f

-- ---- lines in the place of others

pub in_place : (w : ℕ) (on ls : List StandingLine) → AreLines w on → AreLines w ls → texts ls ≡ texts on → AreInPlace w on ls
in_place w [] [] a b t = tt
in_place w [] (l ∷ ls) a b t = absurd (cc)
in_place w (o ∷ on) [] a b t = absurd (cc)
in_place w (o ∷ on) (l ∷ ls) a b t =
    let here : string_bytes l.text ≡ string_bytes o.text = cc in
    let rest : texts ls ≡ texts on = cc in (
      record { rows_are = b.0.rows_are ∙ ap (λ y. length (rows_of w (chars y))) here ∙ sym a.0.rows_are; line = b.0 },
      in_place w on ls a.1 b.1 rest,
    )

-- lines that all stay
abbrev pub IsLeft : StandingLine → Type 0
IsLeft l = l.step ≡ Leave

left_over : (w : ℕ) (o l : StandingLine) → string_bytes l.text ≡ string_bytes o.text → l.step ≡ Leave → IsOver w o l
left_over w o l here q = record {
  becomes = λ stood e. subst (λ s. Becomes w (change_of s (string_bytes l.before) (string_bytes l.text)) stood (string_bytes l.text)) (sym q)
      (e ∙ ap (λ y. looks_of (rows_of w (chars y))) (sym here));
  ready = subst (λ s. IsReady s (string_bytes l.before) (string_bytes l.text)) (sym q) tt;
  waiting = subst (λ s. IsTrue (waits_of s) → Ends w (change_of s (string_bytes l.before) (string_bytes l.text)) (string_bytes l.text)) (sym q) (λ e. absurd (let no : false ≡ true = e in cc));
}

pub all_over : (w : ℕ) (on ls : List StandingLine) → texts ls ≡ texts on → AllByRecursion IsLeft ls → AreOver w on ls
all_over w [] [] t q = tt
all_over w [] (l ∷ ls) t q = absurd (cc)
all_over w (o ∷ on) [] t q = absurd (cc)
all_over w (o ∷ on) (l ∷ ls) t q =
    let here : string_bytes l.text ≡ string_bytes o.text = cc in
    let rest : texts ls ≡ texts on = cc in
    (left_over w o l here q.0, all_over w on ls rest q.1)

pub place_right : (w : ℕ) (on ls : List StandingLine) → AreInPlace w on ls → AreLines w ls
place_right w [] [] p = tt
place_right w [] (l ∷ ls) p = absurd p
place_right w (o ∷ on) [] p = absurd p
place_right w (o ∷ on) (l ∷ ls) p = (p.0.line, place_right w on ls p.1)

place_rows : (w : ℕ) (on ls : List StandingLine) (i : ℕ) (x : StandingLine) → AreInPlace w on ls → i < length on → get_or ls i x ≡ x → x.rows ≡ get_or (heights on) i 0
place_rows w [] ls i x p h e = absurd (omega arith)
place_rows w (o ∷ on) [] i x p h e = absurd p
place_rows w (o ∷ on) (l ∷ ls) zero x p h e = ap (λ (y : StandingLine). y.rows) (sym e) ∙ p.0.rows_are
place_rows w (o ∷ on) (l ∷ ls) (suc i) x p h e = place_rows w on ls i x p.1 (omega arith) e

place_put : (w : ℕ) (on ls : List StandingLine) (i : ℕ) (y : StandingLine) → AreInPlace w on ls → y.rows ≡ get_or (heights on) i 0 → IsLine w y → AreInPlace w on (slice_set ls i y)
place_put w [] [] i y p r l = p
place_put w [] (x ∷ ls) i y p r l = absurd p
place_put w (o ∷ on) [] i y p r l = absurd p
place_put w (o ∷ on) (x ∷ ls) zero y p r l = (record { rows_are = r; line = l }, p.1)
place_put w (o ∷ on) (x ∷ ls) (suc i) y p r l = (p.0, place_put w on ls i y p.1 r l)

-- a new line put in its place
pub place_new : (w : ℕ) (on ls : List StandingLine) (x y : StandingLine) (n : NewLine) → AreInPlace w on ls → FitsIn w on (length on) n → get_or ls n.at x ≡ x → y.rows ≡ x.rows →
    string_bytes y.text ≡ string_bytes n.text → y.last ≡ n.turn.last → y.narrow ≡ n.turn.narrow → AreInPlace w on (slice_set ls n.at y)
place_new w on ls x y n p f e r t c q =
    let rows : y.rows ≡ get_or (heights on) n.at 0 = r ∙ place_rows w on ls n.at x p f.0 e in
    let same : string_bytes n.text ≡ string_bytes y.text = sym t in
    let line : IsLine w y = record {
      rows_are = rows ∙ f.1.rows_are ∙ ap (λ z. length (rows_of w (chars z))) same;
      last_is = c ∙ f.1.last_is ∙ ap (λ z. last_columns w (chars z)) same;
      narrow = ap (λ z. has_wide w (chars z)) t ∙ f.1.narrow;
      single = λ i. subst (λ z. IsRead (chars z)) same (f.1.single (sym q ∙ i));
    } in
    place_put w on ls n.at y p rows line

over_put : (w : ℕ) (on ls : List StandingLine) (i : ℕ) (y : StandingLine) → AreOver w on ls → IsTurned w y.step (get_or (texts on) i []) (string_bytes y.text) →
    string_bytes y.before ≡ get_or (texts on) i [] → AreOver w on (slice_set ls i y)
over_put w [] [] i y p s b = p
over_put w [] (x ∷ ls) i y p s b = absurd p
over_put w (o ∷ on) [] i y p s b = absurd p
over_put w (o ∷ on) (x ∷ ls) zero y p s b =
    let own : IsTurned w y.step (string_bytes y.before) (string_bytes y.text) = subst (λ z. IsTurned w y.step z (string_bytes y.text)) (sym b) s in
    (record { becomes = λ stood e. own.becomes stood (e ∙ ap (λ z. looks_of (rows_of w (chars z))) (sym b)); ready = own.ready; waiting = own.waiting }, p.1)
over_put w (o ∷ on) (x ∷ ls) (suc i) y p s b = (p.0, over_put w on ls i y p.1 s b)

-- where the one that stood there is the one before
pub over_new : (w : ℕ) (on ls : List StandingLine) (y : StandingLine) (n : NewLine) → AreOver w on ls → FitsIn w on (length on) n →
    string_bytes y.text ≡ string_bytes n.text → y.step ≡ n.turn.step → string_bytes y.before ≡ get_or (texts on) n.at [] → AreOver w on (slice_set ls n.at y)
over_new w on ls y n p f t s b =
    over_put w on ls n.at y p (subst (λ z. IsTurned w z (get_or (texts on) n.at []) (string_bytes y.text)) (sym s) (subst (IsTurned w n.turn.step (get_or (texts on) n.at [])) (sym t) f.1.turned)) b

-- such lines can be written
pub over_ready : (w : ℕ) (on ls : List StandingLine) → AreOver w on ls → AreReady ls
over_ready w [] [] p = tt
over_ready w [] (l ∷ ls) p = absurd p
over_ready w (o ∷ on) [] p = absurd p
over_ready w (o ∷ on) (l ∷ ls) p = (p.0.ready, over_ready w on ls p.1)

-- they sit on the rows of those, whatever stands below
pub place_sits : (w : ℕ) (on rest ls : List StandingLine) → AreLines w on → AreInPlace w on ls → AreOver w on ls → AreSitting w (looks_of (standing_rows w (on ++ rest))) (placed ls)
place_sits w [] rest [] a p q = tt
place_sits w [] rest (l ∷ ls) a p q = absurd p
place_sits w (o ∷ on) rest [] a p q = absurd p
place_sits w (o ∷ on) rest (l ∷ ls) a p q =
    let own = rows_of w (chars (string_bytes o.text)) in
    let below = standing_rows w (on ++ rest) in
    let size : length own ≡ l.rows = sym a.0.rows_are ∙ sym p.0.rows_are in (
      record {
        rows_are = p.0.line.rows_are;
        last_is = p.0.line.last_is;
        becomes = q.0.becomes (take l.rows (looks_of (own ++ below))) (take-map (map look) l.rows (own ++ below) ∙ ap looks_of (take_at own below l.rows size));
        waiting = q.0.waiting;
      },
      subst (λ x. AreSitting w x (placed ls)) (sym (drop-map (map look) l.rows (own ++ below) ∙ ap looks_of (drop_at own below l.rows size))) (place_sits w on rest ls a.1 p.1 q.1),
    )

-- ---- lines that are written as a whole

pub whole_sits : (w : ℕ) (looks : List (List Cell)) (ls : List StandingLine) → AreLines w ls → AreWhole ls → AreSitting w looks (placed ls)
whole_sits w looks [] a q = tt
whole_sits w looks (l ∷ ls) a q =
    let old = string_bytes l.before in
    let line = string_bytes l.text in (
      record {
        rows_are = a.0.rows_are;
        last_is = a.0.last_is;
        becomes = subst (λ s. Becomes w (change_of s old line) (take l.rows looks) line) (sym q.0) tt;
        waiting = subst (λ s. IsTrue (waits_of s) → Ends w (change_of s old line) line) (sym q.0) (λ e. absurd (let no : false ≡ true = e in cc));
      },
      whole_sits w (drop l.rows looks) ls a.1 q.1,
    )

pub whole_ready : (ls : List StandingLine) → AreWhole ls → AreReady ls
whole_ready [] q = tt
whole_ready (l ∷ ls) q = (subst (λ s. IsReady s (string_bytes l.before) (string_bytes l.text)) (sym q.0) tt, whole_ready ls q.1)
