-- What two texts begin with alike, and printable ASCII.
use Rattle.std.proofs.Common.{◌≡◌, ℕ, ◌+◌, ◌-◌, ◌<◌, ◌≤◌, Bool, false, List, [], ◌∷◌, ◌++◌, length, get_or, take, drop, chars, refl, sym, ◌∙◌, ap, subst, arith}
use Rattle.std.specs.Prelude.{◌==◌, ◌||◌, All}
use Rattle.std.specs.Int.{IsInRange}
use Rattle.std.specs.List.{AllByRecursion, list_any}
use Rattle.std.specs.Str.{IsAscii}
use Rattle.std.proofs.Math.Bool.{or-false}
use Rattle.std.proofs.Math.Seq.{take-add}
use Rattle.std.proofs.lemmas.Bool.{or_parts}
use Rattle.std.proofs.lemmas.List.{length-drop, length-take-le, take-take, take_all, take_more}
use Rattle.std.proofs.lemmas.List.Elements.{All-weaker, recursion_from_All}
use Rattle.std.proofs.lemmas.List.Folds.{list_any-append}
use Rattle.std.proofs.lemmas.Str.{chars-IsAscii}
use Rattle.std.proofs.lemmas.Str.Ascii.{IsAscii-from_all}
use Rattle.indicatif_text.specs.Columns.{width_of}
use Rattle.indicatif_text.proofs.WidthLemmas.{plain_width}
use Rattle.indicatif_term.specs.Inside.Rests.{AreShared}

-- ---- the same bytes

abbrev pub has_escape : List ℕ → Bool
has_escape bs = list_any (λ b. b == 0x1B) bs

pub shared_none : (a b : List ℕ) → AreShared 0 a b
shared_none a b = record { own = omega arith; other = omega arith; same = refl; plain = refl }

pub shared_more : (n m : ℕ) (a b : List ℕ) → AreShared n a b → AreShared m (drop n a) (drop n b) → AreShared (n + m) a b
shared_more n m a b s t = record {
  own = omega (arith, s.own, t.own, length-drop n a);
  other = omega (arith, s.other, t.other, length-drop n b);
  same = take-add n m a ∙ ap (λ x. x ++ take m (drop n a)) s.same ∙ ap (λ x. take n b ++ x) t.same ∙ sym (take-add n m b);
  plain = ap has_escape (take-add n m a) ∙ list_any-append (λ b. b == 0x1B) (take n a) (take m (drop n a)) ∙ rw (s.plain, t.plain) refl;
}

pub shared_less : (n m : ℕ) (a b : List ℕ) → m ≤ n → AreShared n a b → AreShared m a b
shared_less n m a b less s =
    let whole : m + (n - m) ≡ n = omega (arith, less) in
    let parts : take n a ≡ take m a ++ take (n - m) (drop m a) = ap (λ k. take k a) (sym whole) ∙ take-add m (n - m) a in
    record {
      own = omega (arith, less, s.own);
      other = omega (arith, less, s.other);
      same = sym (take-take m n a less) ∙ ap (take m) s.same ∙ take-take m n b less;
      plain = (or_parts (has_escape (take m a)) (has_escape (take (n - m) (drop m a)))
          (sym (list_any-append (λ b. b == 0x1B) (take m a) (take (n - m) (drop m a))) ∙ ap has_escape (sym parts) ∙ s.plain)).0;
    }

-- a block of each
pub shared_block : (n : ℕ) (a b x y : List ℕ) → x ≡ take n a → y ≡ take n b → n ≤ length a → n ≤ length b → AreShared (length x) x y → AreShared n a b
shared_block n a b x y xa yb fits fits' s =
    let size : length x ≡ n = ap length xa ∙ length-take-le n a fits in
    let size' : length y ≡ n = ap length yb ∙ length-take-le n b fits' in
    let all : take (length x) x ≡ x = take_all (length x) x (omega arith) in
    let all' : take (length x) y ≡ y = take_all (length x) y (omega (arith, size, size')) in
    record {
      own = fits;
      other = fits';
      same = sym xa ∙ sym all ∙ s.same ∙ all' ∙ yb;
      plain = ap has_escape (sym xa ∙ sym all) ∙ s.plain;
    }

-- of the fronts of two texts
pub shared_front : (n m : ℕ) (a b : List ℕ) → m ≤ length a → m ≤ length b → AreShared n (take m a) (take m b) → AreShared n a b
shared_front n m a b fits fits' s =
    let few : n ≤ m = omega (arith, s.other, length-take-le m b fits') in
    record {
      own = omega (arith, few, fits);
      other = omega (arith, few, fits');
      same = sym (take-take n m a few) ∙ s.same ∙ take-take n m b few;
      plain = ap has_escape (sym (take-take n m a few)) ∙ s.plain;
    }

-- one more byte
pub shared_next : (n : ℕ) (a b : List ℕ) → AreShared n a b → n < length a → n < length b → get_or a n 0 ≡ get_or b n 0 → (get_or a n 0 == 0x1B) ≡ false → AreShared (n + 1) a b
shared_next n a b s within within' same plain = record {
  own = omega (arith, within);
  other = omega (arith, within');
  same = take_more a n 0 within ∙ ap (λ x. x ++ get_or a n 0 ∷ []) s.same ∙ ap (λ x. take n b ++ x ∷ []) same ∙ sym (take_more b n 0 within');
  plain = ap has_escape (take_more a n 0 within) ∙ list_any-append (λ b. b == 0x1B) (take n a) (get_or a n 0 ∷ []) ∙ rw (s.plain, plain) refl;
}

-- an escape character up to one more byte
pub escape_next : (bs : List ℕ) (i : ℕ) (found : Bool) → i < length bs → found ≡ has_escape (take i bs) → (found || (get_or bs i 0 == 0x1B)) ≡ has_escape (take (i + 1) bs)
escape_next bs i found within e =
    let x = get_or bs i 0 in
    ap (λ b. b || (x == 0x1B)) e
    ∙ sym (ap has_escape (take_more bs i 0 within) ∙ list_any-append (λ b. b == 0x1B) (take i bs) (x ∷ []) ∙ ap (λ b. has_escape (take i bs) || b) (or-false (x == 0x1B)))

-- ---- printable ASCII

pub printable_chars : (text : List ℕ) → All (IsInRange 0x20 0x7E) text → (chars text ≡ text) × AllByRecursion (λ c. width_of c ≡ 1) (chars text)
printable_chars text all =
    let ascii : IsAscii text = IsAscii-from_all text (All-weaker (IsInRange 0x20 0x7E) (λ b. b < 128) (λ b h. omega (arith, h.1)) text all) in
    let ones : AllByRecursion (λ c. width_of c ≡ 1) text =
    recursion_from_All (λ c. width_of c ≡ 1) text (All-weaker (IsInRange 0x20 0x7E) (λ c. width_of c ≡ 1) plain_width text all) in
    (chars-IsAscii text ascii, subst (AllByRecursion (λ c. width_of c ≡ 1)) (sym (chars-IsAscii text ascii)) ones)
