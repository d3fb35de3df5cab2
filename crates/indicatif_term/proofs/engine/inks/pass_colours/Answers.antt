use Rattle.std.proofs.Common.{◌≡◌, ◌-◌, ◌∙◌, ℕ, Bool, List, [], Bor, sym, subst, ap, chars, arith, take, if◌then◌else◌}
use Rattle.std.specs.Str.{IsUtf8}
use Rattle.indicatif_text.proofs.ColourSequenceLemmas.{Scanned, scanned_by, no_sequence}
use Rattle.indicatif_text.specs.Columns.{colour_length}
use Rattle.indicatif_term.specs.Inside.Inks.{Inked, closes, read}
use Rattle.indicatif_term.specs.Inside.Rests.{ink_of}
use Rattle.indicatif_term.proofs.InkLemmas.{IsBegun, upon, begun_first, begun_closed, begun_more, begun_group, begun_rest, begun_cells}
use Rattle.indicatif_term.proofs.engine.inks.pass_colours.Goals as goal
use Rattle.indicatif_term.proofs.engine.inks.pass_colours.Goals.{then-closing, else-closing}

pub sequences-init : goal.sequences-init
sequences-init c = record {
  begun_utf8 = search;
  rest_utf8 = search;
  len_is = c.colour_len-len.ensures.len;
  fits = c.colour_len-len.ensures.fits;
  ascii = c.colour_len-len.ensures.ascii;
  boundary = c.colour_len-len.ensures.boundary;
  since = begun_first (ink_of c.args.reading.now.ink) c.args.reading.now.text.now c.colour_len-len.result c.colour_len-len.ensures.len (omega (arith, c.if-len-eq0.false));
}

pub sequences-preserved : goal.sequences-preserved
sequences-preserved c =
    let i = c.sequences.invariant in
    let rest = c.sequences.rest.now in
    let n = c.sequences.len in
    let behind = c.range_from-rest.result.now in
    let group = c.args.reading.now.ink.group.now in
    let all : List Inked = read (ink_of c.args.reading.now.ink) (chars c.args.reading.now.text.now) in
    let s : Scanned rest n behind = subst (Scanned rest n) (sym c.range_from-rest.ensures.value)
    (scanned_by rest n i.fits i.ascii (subst IsUtf8 c.range_from-rest.ensures.value c.range_from-rest.utf8)) in
    let is : closes (chars (take n rest)) ≡ c.closes-closing.result =
    ap (λ k. closes (chars (take k rest))) (let e : n ≡ n - 0 = omega arith in e) ∙ ap (λ x. closes (chars x)) (sym c.range.ensures.value) ∙ sym c.closes-closing.ensures in
    let since : IsBegun all (if c.sequences.closed then [] else group) c.sequences.begun.now rest = i.since in
    record {
      begun_utf8 = elim c.if-closing.branch [
        | then-closing w ↦ subst (λ (b : Bor (List ℕ)). IsUtf8 b.now) (sym w.begun-is) c.range_from-rest.utf8
        | else-closing w ↦ subst (λ (b : Bor (List ℕ)). IsUtf8 b.now) (sym w.begun-is) i.begun_utf8
      ];
      rest_utf8 = c.range_from-rest.utf8;
      len_is = c.colour_len-len-in-sequences.ensures.len;
      fits = c.colour_len-len-in-sequences.ensures.fits;
      ascii = c.colour_len-len-in-sequences.ensures.ascii;
      boundary = c.colour_len-len-in-sequences.ensures.boundary;
      since = elim c.if-closing.branch [
        | then-closing w ↦
            subst (λ (b : Bor (List ℕ)). IsBegun all (if c.if-closing.closed then [] else group) b.now behind) (sym w.begun-is)
            (subst (λ (t : Bool). IsBegun all (if t then [] else group) behind behind) (sym w.closed-is)
            (begun_closed _ _ _ rest behind n since s i.len_is c.sequences-test.true (is ∙ w.if-closing.true)))
        | else-closing w ↦
            subst (λ (b : Bor (List ℕ)). IsBegun all (if c.if-closing.closed then [] else group) b.now behind) (sym w.begun-is)
            (subst (λ (t : Bool). IsBegun all (if t then [] else group) c.sequences.begun.now behind) (sym w.closed-is)
            (begun_more _ _ _ rest behind n since s i.len_is c.sequences-test.true (is ∙ w.if-closing.false)))
      ];
    }

pub returns-clause-same : goal.returns-clause-same
returns-clause-same c =
    let i = c.sequences.invariant in
    let begin = c.sequences.begun.now in
    let rest = c.sequences.rest.now in
    let base = if c.sequences.closed then [] else c.args.reading.now.ink.group.now in
    let none = no_sequence (chars rest) c.sequences.len i.len_is (omega (arith, c.sequences-test.false)) in
    let since : IsBegun (read (ink_of c.args.reading.now.ink) (chars c.args.reading.now.text.now)) base begin rest = i.since in
    ap (λ x. read (upon x c.split_at.result.0.now) (chars c.split_at.result.1.now)) c.group_or_none-base.ensures
    ∙ ap (λ x. read (upon base x) (chars c.split_at.result.1.now)) (c.split_at.ensures.front ∙ begun_group _ _ begin rest since)
    ∙ ap (λ x. read (upon base since.group) (chars x)) (c.split_at.ensures.back ∙ begun_rest _ _ begin rest since)
    ∙ begun_cells _ _ begin rest since none

pub returns-clause-front : goal.returns-clause-front
returns-clause-front c =
    let i = c.sequences.invariant in
    let rest = c.sequences.rest.now in
    ap (λ x. colour_length (chars x)) (c.split_at.ensures.back ∙ begun_rest _ _ c.sequences.begun.now rest i.since)
    ∙ no_sequence (chars rest) c.sequences.len i.len_is (omega (arith, c.sequences-test.false))
