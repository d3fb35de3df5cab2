use Rattle.std.proofs.Common.{◌≡◌, ◌∙◌, sym, ap, length, chars, arith}
use Rattle.std.specs.Prelude.{string_bytes}
use Rattle.std.proofs.lemmas.Bool.Decides.{Decides-eqb}
use Rattle.std.proofs.lemmas.Slice.Eq.{slice_eq-Decides}
use Rattle.indicatif_text.specs.Columns.{has_wide, rows_of, last_columns}
use Rattle.indicatif_term.specs.Standing.{IsLine}
use Rattle.indicatif_term.specs.Inside.Inks.{IsRead}
use Rattle.indicatif_term.proofs.BesideLemmas.{all_at}
use Rattle.std.proofs.Common.{subst}
use Rattle.indicatif_term.proofs.engine.layout.measure_beside.Goals as goal

pub returns-then-eq : goal.returns-then-eq
returns-then-eq c =
    let w = c.args.window.columns in
    let x = c.index-known-place.result in
    let line = all_at (IsLine w) c.args.known.now c.args.place x (omega arith) (sym c.index-known-place.is) c.requires in
    let t : string_bytes x.text ≡ c.args.text.now = sym c.as_str.ensures.value ∙ (slice_eq-Decides Decides-eqb _ _ _ c.eq.ensures).0 c.if-eq.true in
    record {
      rows_are = line.rows_are ∙ ap (λ y. length (rows_of w (chars y))) t;
      last_is = line.last_is ∙ ap (λ y. last_columns w (chars y)) t;
      narrow = ap (λ y. has_wide w (chars y)) (sym t) ∙ line.narrow;
      single = λ n. subst (λ y. IsRead (chars y)) t (line.single n);
    }
