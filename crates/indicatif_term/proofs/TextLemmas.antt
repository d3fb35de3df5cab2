-- The characters of a text ask for the visible ones to be put, one after another.
use Rattle.std.proofs.Common.{◌≡◌, ℕ, suc, ◌+◌, ◌-◌, true, false, List, [], ◌∷◌, refl, sym, ◌∙◌, ap, subst, arith, map, eqb, Some, None, Option, inl, inr}
use Rattle.std.specs.Prelude.{if◌then◌else◌, ◌&&◌, is_some, unwrap_or, option_map, option_to_list}
use Rattle.std.specs.List.{AllByRecursion}
use Rattle.std.proofs.lemmas.Bool.{cases_Bool, eqb-true, and_parts, false≢true, false_from_ne_true}
use Rattle.unicode_width.specs.Width.{char_width}
use Rattle.indicatif_text.specs.Columns.{is_parameter, parameters_length, colour_length, visible_from}
use Rattle.indicatif_term.specs.Screen.{Op, Put}
use Rattle.indicatif_term.specs.Terminal.{SequencePlace, OutsideSequence, Sequence, plain_step, sequence_op, number_with}
use Rattle.indicatif_term.specs.Inside.Scanners.{char_ops, char_place}
use Rattle.indicatif_term.proofs.ReaderLemmas.{char_list_ops, place_after, first_ops, first_place, parameter_step}

-- a character that a terminal shows
abbrev pub IsShown : ℕ → Type 0
IsShown c = is_some (char_width false c) ≡ true

pub not_control : (c d : ℕ) → IsShown c → is_some (char_width false d) ≡ false → eqb c d ≡ false
not_control c d shown_rows hidden =
    false_from_ne_true (eqb c d) (λ e. false≢true (sym hidden ∙ ap (λ x. is_some (char_width false x)) (sym (eqb-true c d e)) ∙ shown_rows))

pub record IsPut (c : ℕ) : Type 0 where
  pub ops : char_ops OutsideSequence c ≡ Put c ∷ []
  pub place : char_place OutsideSequence c ≡ OutsideSequence

pub is_put : (c : ℕ) → IsShown c → IsPut c
unfolding char_width
is_put c shown_rows =
    let step : plain_step c ≡ (Some (Put c), OutsideSequence) = rw (not_control c 0x1B shown_rows refl, not_control c 0x0D shown_rows refl, not_control c 0x0A shown_rows refl) refl in
    record { ops = ap (λ (x : Option Op × SequencePlace). option_to_list x.0) step; place = ap (λ (x : Option Op × SequencePlace). x.1) step }

-- what characters ask for, if they end outside a sequence: these are put
pub record AsksToPut (place : SequencePlace) (text shown_rows : List ℕ) : Type 0 where
  pub ops : char_list_ops place text ≡ map (λ c. Put c) shown_rows
  pub after : place_after place text ≡ OutsideSequence

-- the last character of a colour sequence asks for nothing
colour_end : (n : Option ℕ) → sequence_op n 0x6D ≡ None
colour_end None = refl
colour_end (Some n) = refl

pub some_same : {m n : ℕ} → Some m ≡ Some n → m ≡ n
some_same e = cc

pub none_some : {n : ℕ} → None ≡ Some n → ⊥
none_some e = cc

pub record Reads (text : List ℕ) : Type 0 where
  pub plain : AllByRecursion IsShown (visible_from 0 text) → AsksToPut OutsideSequence text (visible_from 0 text)
  pub inside : (number : Option ℕ) (n : ℕ) → parameters_length text ≡ Some n → AllByRecursion IsShown (visible_from n text) → AsksToPut (Sequence number) text (visible_from n text)

put_more : (c : ℕ) (cs shown_rows : List ℕ) → IsShown c → AsksToPut OutsideSequence cs shown_rows → AsksToPut OutsideSequence (c ∷ cs) (c ∷ shown_rows)
put_more c cs shown_rows h rest =
    let p : IsPut c = is_put c h in
    record { ops = rw (p.ops, p.place) (ap (λ ops. Put c ∷ ops) rest.ops); after = rw p.place rest.after }

pub mapped : (k : ℕ) (o : Option ℕ) (n : ℕ) → option_map (λ m. m + k) o ≡ Some n → (m : ℕ) × (o ≡ Some m) × (n ≡ m + k)
mapped k None n e = cc
mapped k (Some m) n e = (m, refl, cc)

parameter_more : (number : Option ℕ) (c : ℕ) (cs shown_rows : List ℕ) → is_parameter c ≡ true → AsksToPut (Sequence (number_with number c)) cs shown_rows →
    AsksToPut (Sequence number) (c ∷ cs) shown_rows
parameter_more number c cs shown_rows holds rest =
    let step = parameter_step number c holds in
    record {
      ops = first_ops (Sequence number) c cs None (Sequence (number_with number c)) step ∙ rest.ops;
      after = first_place (Sequence number) c cs None (Sequence (number_with number c)) step ∙ rest.after;
    }

inside_more : (c : ℕ) (cs : List ℕ) → Reads cs → (number : Option ℕ) (n : ℕ) → parameters_length (c ∷ cs) ≡ Some n → AllByRecursion IsShown (visible_from n (c ∷ cs)) →
    AsksToPut (Sequence number) (c ∷ cs) (visible_from n (c ∷ cs))
inside_more c cs rest number n e all = elim (cases_Bool (eqb c 0x6D)) [
  | inl holds ↦
      let one : 1 ≡ n = some_same (rw holds at e) in
      let is : c ≡ 0x6D = eqb-true c 0x6D holds in
      let after : AsksToPut OutsideSequence cs (visible_from 0 cs) = rest.plain (subst (λ k. AllByRecursion IsShown (visible_from k (c ∷ cs))) (sym one) all) in
      subst (λ k. AsksToPut (Sequence number) (c ∷ cs) (visible_from k (c ∷ cs))) one
      (subst (λ d. AsksToPut (Sequence number) (d ∷ cs) (visible_from 0 cs)) (sym is)
      (record { ops = rw (colour_end number) after.ops; after = after.after }))
  | inr not_end ↦ elim (cases_Bool (is_parameter c)) [
    | inl holds ↦
        let m = mapped 1 (parameters_length cs) n (rw (not_end, holds) at e) in
        let more : suc m.0 ≡ n = omega (arith, m.2) in
        let after : AsksToPut (Sequence (number_with number c)) cs (visible_from m.0 cs) =
        rest.inside (number_with number c) m.0 m.1 (subst (λ k. AllByRecursion IsShown (visible_from k (c ∷ cs))) (sym more) all) in
        subst (λ k. AsksToPut (Sequence number) (c ∷ cs) (visible_from k (c ∷ cs))) more
        (parameter_more number c cs (visible_from m.0 cs) holds after)
    | inr other ↦ absurd (none_some (rw (not_end, other) at e))
  ]
]

-- what shows of a text of at least two characters, where o is the length of the colour sequence at its front
abbrev shown_by : Option ℕ → ℕ → List ℕ → List ℕ
shown_by o c cs = if is_some o then visible_from (unwrap_or o 1 - 1) cs else c ∷ visible_from 0 cs

plain_more : (c d : ℕ) (ds : List ℕ) → Reads (d ∷ ds) → Reads ds → (o : Option ℕ) → colour_length (c ∷ d ∷ ds) ≡ o →
    AllByRecursion IsShown (shown_by o c (d ∷ ds)) → AsksToPut OutsideSequence (c ∷ d ∷ ds) (shown_by o c (d ∷ ds))
plain_more c d ds next rest None e all = put_more c (d ∷ ds) (visible_from 0 (d ∷ ds)) all.0 (next.plain all.1)
plain_more c d ds next rest (Some n) e all = elim (cases_Bool (eqb c 0x1B && eqb d 0x5B)) [
  | inl holds ↦
      let is = and_parts (eqb c 0x1B) (eqb d 0x5B) holds in
      let m = mapped 2 (parameters_length ds) n (rw holds at e) in
      let more : suc m.0 ≡ n - 1 = omega (arith, m.2) in
      let after : AsksToPut (Sequence (Some 0)) ds (visible_from m.0 ds) =
      rest.inside (Some 0) m.0 m.1 (subst (λ k. AllByRecursion IsShown (visible_from k (d ∷ ds))) (sym more) all) in
      subst (λ k. AsksToPut OutsideSequence (c ∷ d ∷ ds) (visible_from k (d ∷ ds))) more
      (subst (λ x. AsksToPut OutsideSequence (x ∷ d ∷ ds) (visible_from m.0 ds)) (sym (eqb-true c 0x1B is.0))
      (subst (λ x. AsksToPut OutsideSequence (0x1B ∷ x ∷ ds) (visible_from m.0 ds)) (sym (eqb-true d 0x5B is.1))
      (record { ops = after.ops; after = after.after })))
  | inr fails ↦ absurd (none_some (rw fails at e))
]

pub reads : (text : List ℕ) → Reads text
reads [] = record { plain = λ _. record { ops = refl; after = refl }; inside = λ number n e all. absurd (none_some e) }
reads (c ∷ []) = record {
  plain = λ all. put_more c [] [] all.0 (record { ops = refl; after = refl });
  inside = inside_more c [] (reads []);
}
reads (c ∷ d ∷ ds) = record { plain = plain_more c d ds (reads (d ∷ ds)) (reads ds) (colour_length (c ∷ d ∷ ds)) refl; inside = inside_more c (d ∷ ds) (reads (d ∷ ds)) }
