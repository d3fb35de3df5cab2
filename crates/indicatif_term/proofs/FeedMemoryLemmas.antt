-- That what stands at the front of bytes tells whether they may take memory.
use Rattle.std.proofs.Common.{◌≡◌, ℕ, zero, suc, ◌-◌, ◌<◌, ◌≤◌, true, false, List, [], ◌∷◌, ◌++◌, length, get_or, take, drop, Option, refl, sym, ◌∙◌, ap, subst, arith, length-drop}
use Rattle.std.specs.Prelude.{option_to_list, All, IsTrue}
use Rattle.std.specs.Int.{IsInRange}
use Rattle.std.proofs.Math.Utf8.{scalar, encode}
use Rattle.std.proofs.lemmas.Bool.{and_parts}
use Rattle.std.proofs.lemmas.List.{take-append-drop, take_all}
use Rattle.std.proofs.lemmas.List.Elements.{recursion_from_All}
use Rattle.indicatif_term.specs.Screen.{Screen, Op, Put}
use Rattle.indicatif_term.specs.Terminal.{Terminal, idle, sequence_op}
use Rattle.indicatif_term.specs.Inside.Scanners.{byte_reader, byte_ops, reader_after, IsWholeChar, IsWholeSequence}
use Rattle.indicatif_term.specs.Feeding.{first_takes_memory, feeding_takes_memory, ops_of}
use Rattle.indicatif_term.proofs.FeedLemmas.{ops_of-append}
use Rattle.indicatif_term.proofs.ReaderLemmas.{Spells, char_read}
use Rattle.indicatif_term.proofs.WholeCharLemmas.{asked}
use Rattle.indicatif_term.proofs.WholeSequenceLemmas.{ascii_read}

-- more behind it changes nothing
with_more : (ops more : List Op) (s : Screen) → IsTrue (first_takes_memory ops s) → IsTrue (first_takes_memory (ops ++ more) s)
with_more [] more s h = let no : false ≡ true = h in cc no
with_more (op ∷ ops) more s h = h

module _ (t : Terminal) (bytes : List ℕ) where
  -- what the first bytes ask for is what all ask for first
  pub front_takes : (n : ℕ) (ops : List Op) → ops_of t.reader (take n bytes) ≡ ops → IsTrue (first_takes_memory ops t.screen) → IsTrue (feeding_takes_memory t bytes)
  unfolding feeding_takes_memory
  front_takes n ops e h =
      let behind = ops_of (reader_after t.reader (take n bytes)) (drop n bytes) in
      let parts : ops_of t.reader bytes ≡ ops ++ behind =
      ap (ops_of t.reader) (sym (take-append-drop n bytes)) ∙ ops_of-append t.reader (take n bytes) (drop n bytes) ∙ ap (λ x. x ++ behind) e in
      subst (λ x. IsTrue (first_takes_memory x t.screen)) (sym parts) (with_more ops behind t.screen h)

  -- a whole character
  pub whole_takes : (c n : ℕ) → IsWholeChar bytes c n → t.reader ≡ idle → IsTrue (feeding_takes_memory t bytes)
  whole_takes c n is rests =
      let spells : Spells idle (encode c) c = char_read idle c (and_parts (scalar c) true is.scalar).0 in
      front_takes n (Put c ∷ []) (ap (λ r. ops_of r (take n bytes)) rests ∙ ap (ops_of idle) is.spelled ∙ spells.ops ∙ (asked c is.printable).0) refl

  -- a whole sequence
  pub sequence_takes : (number : Option ℕ) (last len : ℕ) (ops : List Op) → IsWholeSequence bytes number last len → t.reader ≡ idle → ops ≡ option_to_list (sequence_op number last)
      → IsTrue (first_takes_memory ops t.screen) → IsTrue (feeding_takes_memory t bytes)
  sequence_takes number last len ops is rests e = front_takes len ops (ap (λ r. ops_of r (take len bytes)) rests ∙ is.asks ∙ sym e)

-- a byte
pub byte_takes : (t : Terminal) (bytes : List ℕ) (b : ℕ) → 0 < length bytes → get_or bytes 0 0 ≡ b → IsTrue (first_takes_memory (byte_ops t.reader b) t.screen) →
    IsTrue (feeding_takes_memory t bytes)
unfolding feeding_takes_memory
byte_takes t [] b h e m = absurd (omega arith)
byte_takes t (x ∷ bytes) b h e m =
    with_more (byte_ops t.reader x) (ops_of (byte_reader t.reader x) bytes) t.screen (subst (λ y. IsTrue (first_takes_memory (byte_ops t.reader y) t.screen)) (sym e) m)

-- printable ASCII
pub ascii_takes : (t : Terminal) (bytes : List ℕ) (most : ℕ) → 0 < most → most ≤ length bytes → All (IsInRange 0x20 0x7E) (take most bytes) → t.reader ≡ idle →
    IsTrue (feeding_takes_memory t bytes)
ascii_takes t [] most h w all rests = absurd (omega arith)
ascii_takes t (b ∷ bytes) zero h w all rests = absurd (omega arith)
ascii_takes t (b ∷ bytes) (suc most) h w all rests =
    let is : IsInRange 0x20 0x7E b = (recursion_from_All (IsInRange 0x20 0x7E) (b ∷ take most bytes) all).0 in
    let spells : Spells idle (b ∷ []) b = ascii_read idle b (omega (arith, is.1)) in
    front_takes t (b ∷ bytes) 1 (Put b ∷ []) (ap (λ r. ops_of r (b ∷ [])) rests ∙ spells.ops ∙ (asked b is.0).0) refl

-- of a part that is cut off the front
pub left_takes : (t : Terminal) (bytes : List ℕ) (k : ℕ) → IsTrue (feeding_takes_memory t (take (length bytes - k) (drop k bytes))) → IsTrue (feeding_takes_memory t (drop k bytes))
left_takes t bytes k h =
    let rest : take (length bytes - k) (drop k bytes) ≡ drop k bytes = take_all (length bytes - k) (drop k bytes) (omega (arith, length-drop k bytes)) in
    subst (λ xs. IsTrue (feeding_takes_memory t xs)) rest h
