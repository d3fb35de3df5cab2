-- That a text cut at its colour sequences is its pieces.
use Rattle.std.proofs.Common.{◌≡◌, ℕ, zero, suc, ◌-◌, ◌<◌, List, [], ◌∷◌, ◌++◌, length, take, drop, refl, sym, ◌∙◌, ap, subst, arith, Option, Some, None, length-append, append_assoc}
use Rattle.std.specs.Prelude.{chars, MatchOption}
use Rattle.std.specs.Str.{IsUtf8, IsCharBoundary}
use Rattle.std.proofs.Math.Utf8.{encode, encodes}
use Rattle.std.proofs.Math.Seq.{drop-append_seam, take-append_seam}
use Rattle.std.proofs.lemmas.Str.{chars_past_char, chars-nil, chars-append, encodes-chars, IsUtf8-take, IsCharBoundary-at_seam, IsUtf8-past_char}
use Rattle.std.proofs.lemmas.List.{append_cancel_right, nil_from_length}
use Rattle.indicatif_text.specs.Columns.{colour_length}
use Rattle.indicatif_text.specs.Pieces.{TextPiece, Colour, Run, joined_to, pieces_from, pieces_of_text}
use Rattle.indicatif_text.specs.Inside.Pieces.{run_then}

-- ---- the first piece

from_place : (n : ℕ) (cs : List ℕ) → pieces_from n cs ≡ pieces_from 0 (drop n cs)
from_place zero [] = refl
from_place zero (c ∷ cs) = refl
from_place (suc n) [] = refl
from_place (suc n) (c ∷ cs) = from_place n cs

-- what a text's pieces are by what stands in front
abbrev split_at : ℕ → List ℕ → Option ℕ → List TextPiece
split_at c cs o = elim o [ None ↦ joined_to c (pieces_from 0 cs) | Some n ↦ Colour (take n (c ∷ cs)) ∷ pieces_from (n - 1) cs ]

pub first_colour : (n : ℕ) (cs : List ℕ) → colour_length cs ≡ Some n → 0 < n → pieces_of_text cs ≡ Colour (take n cs) ∷ pieces_of_text (drop n cs)
unfolding pieces_of_text
first_colour n [] e some = absurd (cc e)
first_colour zero (c ∷ cs) e some = absurd (omega arith)
first_colour (suc n) (c ∷ cs) e some =
    let same : suc n - 1 ≡ n = omega arith in
    ap (split_at c cs) e ∙ ap (λ k. Colour (c ∷ take n cs) ∷ pieces_from k cs) same ∙ ap (λ ps. Colour (c ∷ take n cs) ∷ ps) (from_place n cs)

pub first_joined : (c : ℕ) (cs : List ℕ) → colour_length (c ∷ cs) ≡ None → pieces_of_text (c ∷ cs) ≡ joined_to c (pieces_of_text cs)
unfolding pieces_of_text
first_joined c cs e = ap (split_at c cs) e

pub none_left : pieces_of_text [] ≡ []
unfolding pieces_of_text
none_left = refl

-- ---- a run, character by character

abbrev pub joined_all : List ℕ → List TextPiece → List TextPiece
joined_all [] ps = ps
joined_all (c ∷ cs) ps = joined_to c (joined_all cs ps)

joined_push : (cs : List ℕ) (c : ℕ) (ps : List TextPiece) → joined_all (cs ++ c ∷ []) ps ≡ joined_all cs (joined_to c ps)
joined_push [] c ps = refl
joined_push (d ∷ cs) c ps = ap (joined_to d) (joined_push cs c ps)

-- pieces of which the first is no run
pub data NoRunFirst : List TextPiece → Type 0 where
  Empty : NoRunFirst []
  ColourFirst : (sequence : List ℕ) (ps : List TextPiece) → NoRunFirst (Colour sequence ∷ ps)

joined_run : (cs : List ℕ) (ps : List TextPiece) → NoRunFirst ps → joined_all cs ps ≡ run_then cs ps
joined_run [] ps first = refl
joined_run (c ∷ []) [] first = refl
joined_run (c ∷ []) (Colour sequence ∷ ps) first = refl
joined_run (c ∷ []) (Run text ∷ ps) first = elim first [ ]
joined_run (c ∷ d ∷ cs) ps first = ap (joined_to c) (joined_run (d ∷ cs) ps first)

-- a text of whose first run this much was read
pub record Passed (text rest : List ℕ) : Type 0 where
  pub front : List ℕ
  pub read : List ℕ
  pub whole : text ≡ front ++ rest
  pub chars_are : chars text ≡ read ++ chars rest
  pub pieces_are : pieces_of_text (chars text) ≡ joined_all read (pieces_of_text (chars rest))
  pub utf8 : IsUtf8 rest

pub passed_none : (text : List ℕ) → IsUtf8 text → Passed text text
passed_none text u = record { front = []; read = []; whole = refl; chars_are = refl; pieces_are = refl; utf8 = u }

pub passed_more : (text rest more : List ℕ) (c : ℕ) → Passed text rest → colour_length (chars rest) ≡ None → rest ≡ encode c ++ more → Passed text more
passed_more text rest more c p front e =
    let past : chars rest ≡ c ∷ chars more = chars_past_char rest more c p.utf8 e in
    record {
      front = p.front ++ encode c;
      read = p.read ++ c ∷ [];
      whole = p.whole ∙ ap (λ x. p.front ++ x) e ∙ sym (append_assoc p.front (encode c) more);
      chars_are = p.chars_are ∙ ap (λ x. p.read ++ x) past ∙ sym (append_assoc p.read (c ∷ []) (chars more));
      pieces_are = p.pieces_are
          ∙ ap (λ x. joined_all p.read (pieces_of_text x)) past
          ∙ ap (joined_all p.read) (first_joined c (chars more) (ap colour_length (sym past) ∙ front))
          ∙ sym (joined_push p.read c (pieces_of_text (chars more)));
      utf8 = IsUtf8-past_char rest more c p.utf8 e;
    }

-- a run that was read up to its end
module _ (text rest : List ℕ) (p : Passed text rest) (u : IsUtf8 text) where
  len_is : length p.front ≡ length text - length rest
  len_is = omega (arith, ap length p.whole, length-append p.front rest)

  pub passed_boundary : IsCharBoundary text (length text - length rest)
  passed_boundary = subst (IsCharBoundary text) len_is (IsCharBoundary-at_seam text p.front rest p.whole p.utf8)

  take_is : take (length text - length rest) text ≡ p.front
  take_is = ap (λ n. take n text) (sym len_is) ∙ ap (λ t. take (length p.front) t) p.whole ∙ take-append_seam p.front rest

  drop_is : drop (length text - length rest) text ≡ rest
  drop_is = ap (λ n. drop n text) (sym len_is) ∙ ap (λ t. drop (length p.front) t) p.whole ∙ drop-append_seam p.front rest

  read_is : p.read ≡ chars (take (length text - length rest) text)
  read_is =
      let front_utf8 : IsUtf8 p.front = subst IsUtf8 take_is (IsUtf8-take text (length text - length rest) u passed_boundary) in
      append_cancel_right p.read (chars p.front) (chars rest) (sym p.chars_are ∙ ap chars p.whole ∙ chars-append p.front rest front_utf8) ∙ ap chars (sym take_is)

  pub passed_end : NoRunFirst (pieces_of_text (chars rest)) →
      pieces_of_text (chars text) ≡ run_then (chars (take (length text - length rest) text)) (pieces_of_text (chars (drop (length text - length rest) text)))
  passed_end first =
      p.pieces_are ∙ joined_run p.read (pieces_of_text (chars rest)) first ∙ ap (λ x. run_then x (pieces_of_text (chars rest))) read_is
      ∙ ap (λ x. run_then (chars (take (length text - length rest) text)) (pieces_of_text (chars x))) (sym drop_is)

pub no_pieces : (rest : List ℕ) → length rest ≡ 0 → pieces_of_text (chars rest) ≡ []
no_pieces rest e = ap (λ x. pieces_of_text (chars x)) (nil_from_length rest e) ∙ ap pieces_of_text chars-nil ∙ none_left

pub empty_first : (rest : List ℕ) → length rest ≡ 0 → NoRunFirst (pieces_of_text (chars rest))
empty_first rest e = subst NoRunFirst (sym (no_pieces rest e)) Empty

pub colour_first : (n : ℕ) (cs : List ℕ) → colour_length cs ≡ Some n → 0 < n → NoRunFirst (pieces_of_text cs)
colour_first n cs e some = subst NoRunFirst (sym (first_colour n cs e some)) (ColourFirst (take n cs) (pieces_of_text (drop n cs)))

pub passed_next : (text rest bs more : List ℕ) (o : Option ℕ) (A : Type 0) → Passed text rest → colour_length (chars rest) ≡ None → bs ≡ rest
    → MatchOption o A (λ c. bs ≡ encode c ++ more) → (A → length bs ≡ 0) → 0 < length rest → Passed text more
passed_next text rest bs more None A p front e m empty some = absurd (omega (arith, empty m, ap length e))
passed_next text rest bs more (Some c) A p front e m empty some = passed_more text rest more c p front (sym e ∙ m)

run_of : (cs bs : List ℕ) (ps : List TextPiece) → encodes cs ≡ bs → 0 < length bs → run_then cs ps ≡ Run cs ∷ ps
run_of [] bs ps e some = absurd (omega (arith, ap length e))
run_of (c ∷ cs) bs ps e some = refl

pub run_first : (bs : List ℕ) (ps : List TextPiece) → IsUtf8 bs → 0 < length bs → run_then (chars bs) ps ≡ Run (chars bs) ∷ ps
run_first bs ps u some = run_of (chars bs) bs ps (encodes-chars bs u) some
