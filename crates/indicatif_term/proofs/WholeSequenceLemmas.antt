-- A whole escape sequence at the front of bytes does the same as its bytes one after another.
use Rattle.std.proofs.Common.{◌≡◌, ℕ, ◌+◌, ◌<◌, ◌≤◌, true, false, List, [], ◌∷◌, ◌++◌, length, get_or, take, Option, Some, refl, sym, ◌∙◌, ap, subst, arith}
use Rattle.std.specs.Prelude.{option_to_list}
use Rattle.std.proofs.Math.Utf8.{low_scalar}
use Rattle.std.proofs.lemmas.Str.{encode_ascii}
use Rattle.std.proofs.lemmas.List.{take_more}
use Rattle.indicatif_text.specs.Columns.{is_parameter}
use Rattle.indicatif_term.specs.Screen.{Screen}
use Rattle.indicatif_term.specs.Terminal.{OutsideSequence, Sequence, Reader, Terminal, idle, number_with, sequence_op, after}
use Rattle.indicatif_term.specs.Inside.Scanners.{performed_all, char_ops, char_place, reader_after, IsWholeSequence, IsSequenceFront}
use Rattle.indicatif_term.specs.Feeding.{ops_of}
use Rattle.indicatif_term.proofs.FeedLemmas.{ops_of-append, reader_after-append, fed}
use Rattle.indicatif_term.proofs.ReaderLemmas.{Spells, char_read}

pub ascii_read : (r : Reader) (b : ℕ) → b < 128 → Spells r (b ∷ []) b
ascii_read r b h = subst (λ bytes. Spells r bytes b) (encode_ascii b h) (char_read r b (low_scalar b (omega arith)))

abbrev inside : Option ℕ → Reader
inside number = record { place = Sequence number; spelling = [] }

two_at_front : (bytes : List ℕ) (b d : ℕ) → 2 ≤ length bytes → get_or bytes 0 0 ≡ b → get_or bytes 1 0 ≡ d → take 2 bytes ≡ b ∷ d ∷ []
two_at_front [] b d h e e' = absurd (omega arith)
two_at_front (x ∷ []) b d h e e' = absurd (omega arith)
two_at_front (x ∷ y ∷ ys) b d h e e' = cc

pub sequence_begins : (bytes : List ℕ) → 2 ≤ length bytes → get_or bytes 0 0 ≡ 0x1B → get_or bytes 1 0 ≡ 0x5B → IsSequenceFront bytes (Some 0) 2
sequence_begins bytes h e e' =
    let front : take 2 bytes ≡ 0x1B ∷ 0x5B ∷ [] = two_at_front bytes 0x1B 0x5B h e e' in
    let first : Spells idle (0x1B ∷ []) 0x1B = ascii_read idle 0x1B (omega arith) in
    let next = reader_after idle (0x1B ∷ []) in
    let second : Spells next (0x5B ∷ []) 0x5B = ascii_read next 0x5B (omega arith) in
    let place : next.place ≡ char_place OutsideSequence 0x1B = ap (λ r. r.place) first.reader in
    record {
      within = h;
      asks = ap (ops_of idle) front ∙ ops_of-append idle (0x1B ∷ []) (0x5B ∷ []) ∙ ap (λ ops. ops ++ ops_of next (0x5B ∷ [])) first.ops ∙ second.ops ∙ ap (λ p. char_ops p 0x5B) place;
      goes_on = ap (reader_after idle) front ∙ reader_after-append idle (0x1B ∷ []) (0x5B ∷ []) ∙ second.reader
          ∙ ap (λ p. let r : Reader = record { place = char_place p 0x5B; spelling = [] } in r) place;
    }

module _ (bytes : List ℕ) (number : Option ℕ) (len b : ℕ) (front : IsSequenceFront bytes number len) (h : len < length bytes) (e : get_or bytes len 0 ≡ b) (low : b < 128) where
  longer : take (len + 1) bytes ≡ take len bytes ++ b ∷ []
  longer = take_more bytes len 0 h ∙ ap (λ x. take len bytes ++ x ∷ []) e

  spells : Spells (inside number) (b ∷ []) b
  spells = ascii_read (inside number) b low

  asked : ops_of idle (take (len + 1) bytes) ≡ char_ops (Sequence number) b
  asked =
      ap (ops_of idle) longer ∙ ops_of-append idle (take len bytes) (b ∷ []) ∙ ap (λ ops. ops ++ ops_of (reader_after idle (take len bytes)) (b ∷ [])) front.asks
      ∙ ap (λ r. ops_of r (b ∷ [])) front.goes_on ∙ spells.ops

  goes : reader_after idle (take (len + 1) bytes) ≡ record { place = char_place (Sequence number) b; spelling = [] }
  goes =
      ap (reader_after idle) longer ∙ reader_after-append idle (take len bytes) (b ∷ []) ∙ ap (λ r. reader_after r (b ∷ [])) front.goes_on ∙ spells.reader

  pub sequence_goes_on : is_parameter b ≡ true → IsSequenceFront bytes (number_with number b) (len + 1)
  sequence_goes_on is = record {
    within = omega arith;
    asks = asked ∙ rw (is, char_ops) refl;
    goes_on = goes ∙ rw (is, char_place) refl;
  }

  pub sequence_ends : is_parameter b ≡ false → IsWholeSequence bytes number b (len + 1)
  sequence_ends not = record {
    some = omega arith;
    within = omega arith;
    asks = asked ∙ rw (not, char_ops) refl;
    ends = goes ∙ rw (not, char_place) refl;
  }

pub fed_sequence : (t : Terminal) (new : Screen) (bytes : List ℕ) (number : Option ℕ) (last len : ℕ) → IsWholeSequence bytes number last len → t.reader ≡ idle →
    new ≡ performed_all (option_to_list (sequence_op number last)) t.screen → ◌≡◌ {A = Terminal} (record { screen = new; reader = t.reader }) (after t (take len bytes))
fed_sequence t new bytes number last len is rests e =
    fed t (take len bytes) new t.reader (e ∙ ap (λ ops. performed_all ops t.screen) (sym is.asks ∙ ap (λ r. ops_of r (take len bytes)) (sym rests)))
    (rests ∙ sym is.ends ∙ ap (λ r. reader_after r (take len bytes)) (sym rests))
