use Rattle.std.proofs.Common.{◌≡◌, ℕ, Bool, List, [], ◌<◌, ◌≤◌, ◌+◌, ◌-◌, ◌++◌, ◌∙◌, true, false, ap, sym, subst, refl, arith, length, length-append, map, chars}
use Rattle.std.specs.Prelude.{◌==◌}
use Rattle.std.specs.Str.{bytes_eq}
use Rattle.std.proofs.lemmas.Bool.{and_parts, eqb-true}
use Rattle.std.proofs.lemmas.List.{length-map, nil_from_length}
use Rattle.std.proofs.lemmas.Slice.Eq.{bytes_eq-Decides}
use Rattle.std.proofs.lemmas.Str.{chars-nil}
use Rattle.indicatif_term.specs.Inside.RowEdits.{rest_bytes}
use Rattle.indicatif_term.specs.Inside.Inks.{Ink, Inked, in_ink, read, same_ink}
use Rattle.indicatif_term.specs.Inside.Rests.{ArePlain, ink_of, cells}
use Rattle.indicatif_term.proofs.InkLemmas.{read_front, read_none}
use Rattle.indicatif_term.proofs.RowWritingLemmas.{rest_skips, rest_last}
use Rattle.indicatif_term.proofs.engine.row_edits.skip.Goals as goal
use Rattle.indicatif_term.proofs.engine.row_edits.skip.Goals.{then-ended, else-ended}

same_inks : (i j : Ink) → same_ink i j ≡ true → i ≡ j
same_inks i j e =
    let both = and_parts (bytes_eq i.base j.base) (bytes_eq i.group j.group) e in
    let base : i.base ≡ j.base = (bytes_eq-Decides i.base j.base).0 both.0 in
    let group : i.group ≡ j.group = (bytes_eq-Decides i.group j.group).0 both.1 in
    ap (λ b. let k : Ink = record { base = b; group = i.group } in k) base ∙ ap (λ g. let k : Ink = record { base = j.base; group = g } in k) group

none_read : (ink : Ink) (text : List ℕ) → (length text == 0) ≡ true → read ink (chars text) ≡ []
none_read ink text e = ap (λ x. read ink (chars x)) (nil_from_length text (eqb-true (length text) 0 e)) ∙ ap (read ink) chars-nil ∙ read_none false ink

pub returns : goal.returns
returns c =
    let rest = c.args.rest.now in
    let p = c.split-parts.result in
    let d : ArePlain rest.own.text.now rest.other.text.now p = c.split-parts.ensures in
    let ink = ink_of rest.own.ink in
    let now = ink_of rest.ink in
    let alike : ink ≡ ink_of rest.other.ink = same_inks ink (ink_of rest.other.ink) (sym c.are_same.ensures ∙ c.if-not-are_same.false) in
    let front = chars p.front.now in
    let same = map (in_ink ink) front in
    let own = read ink (chars p.own.now) in
    let other = read (ink_of rest.other.ink) (chars p.other.now) in
    let old_is : cells rest.own ≡ same ++ own = ap (read ink) d.old_is ∙ read_front ink front (chars p.own.now) d.plain in
    let new_is : cells rest.other ≡ same ++ other =
    ap (read (ink_of rest.other.ink)) d.new_is ∙ read_front (ink_of rest.other.ink) front (chars p.other.now) d.plain ∙ ap (λ i. map (in_ink i) front ++ other) (sym alike) in
    let olds : length (same ++ own) ≤ rest.left = subst (λ (xs : List Inked). length xs ≤ rest.left) old_is c.requires.room.olds in
    let news : length (same ++ other) ≤ rest.left = subst (λ (xs : List Inked). length xs ≤ rest.left) new_is c.requires.room.news in
    let m = length same in
    let count : c.char_count-count.result ≡ m = c.char_count-count.ensures ∙ sym (length-map front (in_ink ink)) in
    let room : m < rest.left = omega (arith, count, c.if-count-rest.false) in
    let own_few : length own ≤ rest.left - m = omega (arith, olds, length-append same own) in
    let other_few : length other ≤ rest.left - m = omega (arith, news, length-append same other) in
    let shown : (ends : Bool) → rest_bytes ends now rest.gap rest.left (cells rest.own) (cells rest.other) ≡ rest_bytes ends now (rest.gap + m) (rest.left - m) own other = λ ends.
    ap (λ xs. rest_bytes ends now rest.gap rest.left xs (cells rest.other)) old_is ∙ ap (λ xs. rest_bytes ends now rest.gap rest.left (same ++ own) xs) new_is
    ∙ rest_skips ends now same own other rest.gap rest.left room olds news in
    let IsGone = λ (n : ℕ). (n < rest.left) × (length own ≤ rest.left - n) × (length other ≤ rest.left - n)
    × ((ends : Bool) → rest_bytes ends now (rest.gap + n) (rest.left - n) own other ≡ rest_bytes ends now (rest.gap + m) (rest.left - m) own other) in
    let gone : IsGone c.if-ended.columns = elim c.if-ended.branch [
      | then-ended b ↦
          let both = and_parts c.is_empty.result c.is_empty-2.result b.if-ended.true in
          let no_own : own ≡ [] = none_read ink p.own.now (sym c.is_empty.ensures ∙ both.0) in
          let no_other : other ≡ [] = none_read (ink_of rest.other.ink) p.other.now (sym c.is_empty-2.ensures ∙ both.1) in
          subst IsGone (sym b.columns-is)
          (omega arith, omega (arith, ap length no_own), omega (arith, ap length no_other), λ ends. rest_last ends now own other rest.gap rest.left m no_own no_other room)
      | else-ended b ↦ subst IsGone (sym (b.columns-is ∙ count)) (room, own_few, other_few, λ ends. refl)
    ] in
    record {
      same = λ ends. gone.3 ends ∙ sym (shown ends);
      left = omega arith;
      room = record {
        small = omega (arith, gone.0, c.requires.room.small);
        olds = gone.1;
        news = gone.2;
      };
    }
