use Rattle.std.proofs.Common.{◌≡◌, ℕ, ◌+◌, ◌∙◌, ◌++◌, List, Option, Some, None, ap, sym, subst, length, chars, arith}
use Rattle.std.specs.Prelude.{string_bytes, IsTrue, IfSome}
use Rattle.indicatif_text.specs.Columns.{visible, rows_of, last_columns}
use Rattle.indicatif_term.specs.Standing.{IsLine}
use Rattle.indicatif_term.specs.Inside.RowEdits.{AreSingle}
use Rattle.indicatif_term.specs.Inside.Inks.{IsRead}
use Rattle.indicatif_term.specs.Inside.Rests.{ArePlain}
use Rattle.indicatif_term.specs.declared.engine.inks.Alike.{Alike}
use Rattle.indicatif_term.specs.declared.engine.remembered.StandingLine.{StandingLine}
use Rattle.indicatif_term.proofs.InkLemmas.{read_behind, columns_behind}
use Rattle.indicatif_term.proofs.engine.comparing.own_count.Goals as goal
use Rattle.indicatif_term.proofs.engine.comparing.own_count.Goals.{then-not-line+in_ok-narrow_count, else-not-line}

module _ (line : StandingLine) (new : List ℕ) (p : Alike) (w : ℕ) (is : IsLine w line) (row : line.rows ≡ 1) (narrow : IsTrue line.narrow) (d : ArePlain (string_bytes line.text) new p) where
  read : IsRead (chars p.front.now ++ chars p.own.now)
  read = subst IsRead d.old_is (is.single narrow)

  both : AreSingle (chars p.front.now) × IsRead (chars p.own.now)
  both = read_behind (chars p.front.now) (chars p.own.now) d.plain read

  own_columns : line.last ≡ length (chars p.front.now) + length (visible (chars p.own.now))
  own_columns =
      is.last_is ∙ ap (last_columns w) d.old_is
      ∙ columns_behind w (chars p.front.now) (chars p.own.now) d.plain read (ap (λ x. length (rows_of w x)) (sym d.old_is) ∙ sym is.rows_are ∙ row)

pub returns-then-parts-clause-count : goal.returns-then-parts-clause-count
returns-then-parts-clause-count c =
    let columns = own_columns c.args.line.now c.requires.parts.0 c.args.parts c.requires.line.0 c.requires.line.1 c.requires.row c.if-line.true c.requires.parts.1 in
    omega (arith, c.saturating_sub.ensures, c.char_count.ensures, columns)

pub returns-then-parts-clause-read : goal.returns-then-parts-clause-read
returns-then-parts-clause-read c = (both c.args.line.now c.requires.parts.0 c.args.parts c.requires.line.0 c.requires.line.1 c.requires.row c.if-line.true c.requires.parts.1).1

pub returns-then-parts-clause-front : goal.returns-then-parts-clause-front
returns-then-parts-clause-front c = (both c.args.line.now c.requires.parts.0 c.args.parts c.requires.line.0 c.requires.line.1 c.requires.row c.if-line.true c.requires.parts.1).0

always : (o : Option ℕ) (P : Type 0) → P → IfSome o (λ n. P)
always None P p = tt
always (Some n) P p = p

pub returns-clause-front : goal.returns-clause-front
returns-clause-front c = always c.inked_count.result _ (elim c.if-not-line.branch [
  | then-not-line+in_ok-narrow_count w ↦ w.in_ok-narrow_count.ensures.1
  | else-not-line w ↦ (both c.args.line.now c.requires.parts.0 c.args.parts c.requires.line.0 c.requires.line.1 c.requires.row w.if-not-line.false c.requires.parts.1).0
])
