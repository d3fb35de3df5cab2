-- That a run of characters is a run of bytes.
use Rattle.std.proofs.Common.{◌≡◌, ℕ, zero, suc, ◌+◌, ◌<◌, ◌≤◌, inl, inr, Bool, true, false, List, [], ◌∷◌, ◌++◌, length, get_or, take, drop, refl, sym, ◌∙◌, ap, arith, append-nil}
use Rattle.std.specs.Prelude.{take_while, chars, IsUtf8, IsCharBoundary}
use Rattle.std.specs.List.{prefix_len}
use Rattle.std.proofs.Math.Utf8.{encode, encodes, scalar, scalars}
use Rattle.std.proofs.Math.Seq.{take-append-add, drop-append-add}
use Rattle.std.proofs.lemmas.Bool.{cases_Bool, cases_lt, and_parts, and_from}
use Rattle.std.proofs.lemmas.Bool.Decides.{nat_tests}
use Rattle.indicatif_text.specs.declared.spans.CharacterClass.{CharacterClass}
use Rattle.indicatif_text.specs.declared.spans.CharacterClass.TheVariants.{Literal, Key, Word}
use Rattle.indicatif_text.specs.declared.spans.Words.TheVariants.{All, Style, Alternative}
use Rattle.std.proofs.lemmas.List.Sums.{prefix_len-le-length}
use Rattle.std.proofs.lemmas.Str.{encode_ascii, inside_one, length-encode, len_utf8_bounds, chars-encodes, scalars-chars, encodes-chars, IsCharBoundary-from_drop}
use Rattle.indicatif_text.specs.Inside.Spans.{belongs}
use Rattle.indicatif_text.specs.Template.{after_run}

prefix_all : (p : ℕ → Bool) (xs ys : List ℕ) → ((k : ℕ) → k < length xs → p (get_or xs k 0) ≡ true) → prefix_len p (xs ++ ys) ≡ length xs + prefix_len p ys
prefix_all p [] ys all = omega arith
prefix_all p (x ∷ xs) ys all =
    let first : p x ≡ true = all 0 (omega arith) in
    let rest = prefix_all p xs ys (λ k h. all (suc k) (omega (arith, h))) in
    rw first (omega (arith, rest))

prefix_none : (p : ℕ → Bool) (xs ys : List ℕ) → 0 < length xs → p (get_or xs 0 0) ≡ false → prefix_len p (xs ++ ys) ≡ 0
prefix_none p [] ys some first = absurd (omega (arith, some))
prefix_none p (x ∷ xs) ys some first = rw first refl

scalars_take : (n : ℕ) (cs : List ℕ) → scalars cs ≡ true → scalars (take n cs) ≡ true
scalars_take zero [] s = refl
scalars_take (suc n) [] s = refl
scalars_take zero (c ∷ cs) s = refl
scalars_take (suc n) (c ∷ cs) s = let b = and_parts (scalar c) (scalars cs) s in and_from (scalar c) (scalars (take n cs)) b.0 (scalars_take n cs b.1)

scalars_drop : (n : ℕ) (cs : List ℕ) → scalars cs ≡ true → scalars (drop n cs) ≡ true
scalars_drop zero [] s = refl
scalars_drop (suc n) [] s = refl
scalars_drop zero (c ∷ cs) s = s
scalars_drop (suc n) (c ∷ cs) s = scalars_drop n cs (and_parts (scalar c) (scalars cs) s).1

module _ (p : ℕ → Bool) (past_ascii : (c : ℕ) → 128 ≤ c → p c ≡ p 128) where
  -- the bytes of a character pass where the character does
  byte_passes : (c k : ℕ) → k < length (encode c) → p (get_or (encode c) k 0) ≡ p c
  byte_passes c k h =
      elim (cases_lt (get_or (encode c) k 0) 128) [
        | inl small ↦ ap p (sym (inside_one c [] (encode c) k (sym (append-nil (encode c))) h small))
        | inr large ↦ elim (cases_lt c 128) [
          | inl ascii ↦
              let one : encode c ≡ c ∷ [] = encode_ascii c ascii in
              let none : k ≡ 0 = omega (arith, h, ap length one) in
              let same : get_or (encode c) k 0 ≡ c = ap (λ xs. get_or xs k 0) one ∙ ap (λ i. get_or (c ∷ []) i 0) none in
              ap p same
          | inr past ↦ past_ascii (get_or (encode c) k 0) large ∙ sym (past_ascii c past)
        ]
      ]

  encode_some : (c : ℕ) → 0 < length (encode c)
  encode_some c = omega (arith, length-encode c, (len_utf8_bounds c).0)

  record Cut (cs : List ℕ) : Type 0 where
    front : take (prefix_len p (encodes cs)) (encodes cs) ≡ encodes (take (prefix_len p cs) cs)
    back : drop (prefix_len p (encodes cs)) (encodes cs) ≡ encodes (drop (prefix_len p cs) cs)

  cut : (cs : List ℕ) → Cut cs
  cut [] = record { front = refl; back = refl }
  cut (c ∷ cs) =
      let more = cut cs in
      elim (cases_Bool (p c)) [
        | inl passes ↦
            let n : prefix_len p (encode c ++ encodes cs) ≡ length (encode c) + prefix_len p (encodes cs) = prefix_all p (encode c) (encodes cs) (λ k h. byte_passes c k h ∙ passes) in
            let one : 1 + prefix_len p cs ≡ suc (prefix_len p cs) = omega arith in
            record {
              front = rw (passes, one) (ap (λ k. take k (encode c ++ encodes cs)) n ∙ take-append-add (encode c) (encodes cs) (prefix_len p (encodes cs)) ∙ ap (λ xs. encode c ++ xs) more.front);
              back = rw (passes, one) (ap (λ k. drop k (encode c ++ encodes cs)) n ∙ drop-append-add (encode c) (encodes cs) (prefix_len p (encodes cs)) ∙ more.back);
            }
        | inr fails ↦
            let n : prefix_len p (encode c ++ encodes cs) ≡ 0 = prefix_none p (encode c) (encodes cs) (encode_some c) (byte_passes c 0 (encode_some c) ∙ fails) in
            record {
              front = rw fails (ap (λ k. take k (encode c ++ encodes cs)) n);
              back = rw fails (ap (λ k. drop k (encode c ++ encodes cs)) n);
            }
      ]

  module _ (bs : List ℕ) (u : IsUtf8 bs) where
    pub run_chars : chars (take (prefix_len p bs) bs) ≡ take_while p (chars bs)
    run_chars =
        ap (λ xs. chars (take (prefix_len p xs) xs)) (sym (encodes-chars bs u)) ∙ ap chars (cut (chars bs)).front
        ∙ chars-encodes (take (prefix_len p (chars bs)) (chars bs)) (scalars_take (prefix_len p (chars bs)) (chars bs) (scalars-chars bs u))

    rest_encodes : drop (prefix_len p bs) bs ≡ encodes (after_run p (chars bs))
    rest_encodes = ap (λ xs. drop (prefix_len p xs) xs) (sym (encodes-chars bs u)) ∙ (cut (chars bs)).back

    rest_scalars : scalars (after_run p (chars bs)) ≡ true
    rest_scalars = scalars_drop (prefix_len p (chars bs)) (chars bs) (scalars-chars bs u)

    pub rest_chars : chars (drop (prefix_len p bs) bs) ≡ after_run p (chars bs)
    rest_chars = ap chars rest_encodes ∙ chars-encodes (after_run p (chars bs)) rest_scalars

    pub rest_utf8 : IsUtf8 (drop (prefix_len p bs) bs)
    rest_utf8 = (after_run p (chars bs), (rest_scalars, sym rest_encodes))

    pub run_boundary : IsCharBoundary bs (prefix_len p bs)
    run_boundary = IsCharBoundary-from_drop bs (prefix_len p bs) (prefix_len-le-length p bs) rest_utf8

-- characters past ASCII belong to a run or don't, all of them
pub past_ascii : (run : CharacterClass) (c : ℕ) → 128 ≤ c → belongs run c ≡ belongs run 128
past_ascii Literal c h = grind (arith, nat_tests)
past_ascii Key c h = grind (arith, nat_tests)
past_ascii (Word All) c h = grind (arith, nat_tests)
past_ascii (Word Style) c h = grind (arith, nat_tests)
past_ascii (Word Alternative) c h = grind (arith, nat_tests)
