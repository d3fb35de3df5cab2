-- A whole character at the front of bytes does the same as its bytes one after another.
use Rattle.std.proofs.Common.{◌≡◌, ℕ, ◌+◌, ◌-◌, ◌*◌, ◌/◌, ◌≤◌, true, false, List, [], ◌∷◌, length, take, drop, refl, sym, ◌∙◌, ap, arith, eqb, ltb, length-drop, Option, Some}
use Rattle.std.specs.Prelude.{option_to_list}
use Rattle.std.specs.List.{AllByRecursion}
use Rattle.std.proofs.Math.Utf8.{scalar, scalars, encode, encodes, next}
use Rattle.std.proofs.Math.Seq.{take-add}
use Rattle.std.proofs.lemmas.List.{take_all}
use Rattle.std.proofs.lemmas.Bool.{and_parts, ne_eqb, le-ltb, lt-ltb}
use Rattle.indicatif_term.specs.Screen.{Screen, Op, Put, performed}
use Rattle.indicatif_term.specs.Terminal.{SequencePlace, OutsideSequence, Reader, Terminal, idle, plain_step, after}
use Rattle.indicatif_term.specs.Inside.Scanners.{char_ops, char_place, performed_all, reader_after, IsWholeChar}
use Rattle.indicatif_term.specs.Feeding.{ops_of}
use Rattle.indicatif_term.specs.Inside.Runs.{puts}
use Rattle.indicatif_term.proofs.FeedLemmas.{fed, after-append, same_terminal}
use Rattle.indicatif_term.proofs.ReaderLemmas.{Spells, char_read, char_list_ops, place_after, chars_read}

-- three bytes
three : (c f s t : ℕ) → c ≡ (f - 224) * 4096 + (s - 128) * 64 + (t - 128) → 225 ≤ f → f ≤ 239 → 128 ≤ s → s ≤ 191 → 128 ≤ t → t ≤ 191 →
    f ∷ s ∷ t ∷ [] ≡ encode c
unfolding encode
three c f s t e f₁ f₂ s₁ s₂ t₁ t₂ =
    let large : ltb c 128 ≡ false = le-ltb c 128 (omega arith) in
    let larger : ltb c 2048 ≡ false = le-ltb c 2048 (omega arith) in
    let within : ltb c 65536 ≡ true = lt-ltb c 65536 (omega arith) in
    let first : f ≡ 224 + c / 4096 = omega arith in
    let second : s ≡ next (c / 64) = omega arith in
    let third : t ≡ next c = omega arith in
    rw (large, larger, within) (cc (first, second, third))

pub whole_of_three : (c f s t : ℕ) → scalar c ≡ true → c ≡ (f - 224) * 4096 + (s - 128) * 64 + (t - 128) → 225 ≤ f → f ≤ 239 → 128 ≤ s → s ≤ 191 → 128 ≤ t → t ≤ 191 →
    IsWholeChar (f ∷ s ∷ t ∷ []) c 3
whole_of_three c f s t is e f₁ f₂ s₁ s₂ t₁ t₂ = record {
  some = omega arith;
  within = omega arith;
  spelled = three c f s t e f₁ f₂ s₁ s₂ t₁ t₂;
  scalar = rw is refl;
  printable = omega arith;
}

-- what a character asks for that is no control character of ASCII
pub asked : (c : ℕ) → 0x20 ≤ c → (char_ops OutsideSequence c ≡ Put c ∷ []) × (char_place OutsideSequence c ≡ OutsideSequence)
asked c h =
    let escape : eqb c 0x1B ≡ false = ne_eqb c 0x1B (λ e. omega arith) in
    let return : eqb c 0x0D ≡ false = ne_eqb c 0x0D (λ e. omega arith) in
    let feed : eqb c 0x0A ≡ false = ne_eqb c 0x0A (λ e. omega arith) in
    let step : plain_step c ≡ (Some (Put c), OutsideSequence) = rw (escape, return, feed) refl in
    (ap (λ (x : Option Op × SequencePlace). option_to_list x.0) step, ap (λ (x : Option Op × SequencePlace). x.1) step)

fed_character : (s new : Screen) (c : ℕ) → scalar c ≡ true → 0x20 ≤ c → new ≡ performed (Put c) s →
    ◌≡◌ {A = Terminal} (record { screen = new; reader = idle }) (after (record { screen = s; reader = idle }) (encode c))
fed_character s new c is printable e =
    let spells : Spells idle (encode c) c = char_read idle c is in
    let a = asked c printable in
    fed (record { screen = s; reader = idle }) (encode c) new idle (e ∙ sym (ap (λ ops. performed_all ops s) (spells.ops ∙ a.0)))
    (sym (spells.reader ∙ ap (λ p. let r : Reader = record { place = p; spelling = [] } in r) a.1))

pub fed_whole : (t : Terminal) (new : Screen) (bytes : List ℕ) (c n : ℕ) → IsWholeChar bytes c n → t.reader ≡ idle → new ≡ performed (Put c) t.screen →
    ◌≡◌ {A = Terminal} (record { screen = new; reader = t.reader }) (after t (take n bytes))
fed_whole t new bytes c n is rests e =
    let u : Terminal = record { screen = t.screen; reader = idle } in
    let same : t ≡ u = same_terminal _ _ _ _ refl rests in
    same_terminal _ _ _ _ refl rests ∙ fed_character t.screen new c (and_parts (scalar c) true is.scalar).0 is.printable e
    ∙ ap (λ bytes. after u bytes) (sym is.spelled) ∙ ap (λ v. after v (take n bytes)) (sym same)

-- some bytes more
pub after_some : (t now new : Terminal) (bytes : List ℕ) (k n : ℕ) → now ≡ after t (take k bytes) → new ≡ after now (take n (take (length bytes - k) (drop k bytes))) →
    new ≡ after t (take (k + n) bytes)
after_some t now new bytes k n e e' =
    let rest : take (length bytes - k) (drop k bytes) ≡ drop k bytes = take_all (length bytes - k) (drop k bytes) (omega (arith, length-drop k bytes)) in
    e' ∙ ap (λ xs. after now (take n xs)) rest ∙ ap (λ u. after u (take n (drop k bytes))) e
    ∙ sym (after-append t (take k bytes) (take n (drop k bytes))) ∙ ap (after t) (sym (take-add k n bytes))

-- ---- characters one after another

all_asked : (cs : List ℕ) → AllByRecursion (λ c. 0x20 ≤ c) cs → (char_list_ops OutsideSequence cs ≡ puts cs) × (place_after OutsideSequence cs ≡ OutsideSequence)
all_asked [] all = (refl, refl)
all_asked (c ∷ cs) all =
    let a = asked c all.0 in
    let rest = all_asked cs all.1 in
    (rw (a.0, a.1) (ap (λ ops. Put c ∷ ops) rest.0), rw a.1 rest.1)

pub fed_characters : (t : Terminal) (new : Screen) (bytes cs : List ℕ) → t.reader ≡ idle → bytes ≡ encodes cs → scalars cs ≡ true → AllByRecursion (λ c. 0x20 ≤ c) cs →
    new ≡ performed_all (puts cs) t.screen → ◌≡◌ {A = Terminal} (record { screen = new; reader = t.reader }) (after t bytes)
fed_characters t new bytes cs rests spelled are printable e =
    let read = chars_read OutsideSequence cs are in
    let ask = all_asked cs printable in
    fed t bytes new t.reader (e ∙ ap (λ ops. performed_all ops t.screen) (sym (ap (λ r. ops_of r bytes) rests ∙ ap (ops_of idle) spelled ∙ read.0 ∙ ask.0)))
    (rests ∙ sym (ap (λ r. reader_after r bytes) rests ∙ ap (reader_after idle) spelled ∙ read.1 ∙ ap (λ p. let r : Reader = record { place = p; spelling = [] } in r) ask.1))
