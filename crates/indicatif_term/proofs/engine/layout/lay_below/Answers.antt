use Rattle.std.proofs.Common.{arith, refl, sym, ap, subst, ◌≡◌, ◌∙◌, ◌+◌, ◌<◌, length, chars, false}
use Rattle.indicatif_text.specs.Columns.{has_wide, rows_of, last_columns}
use Rattle.indicatif_term.specs.Lists.{BarRows}
use Rattle.indicatif_term.specs.Inside.Inks.{IsRead}
use Rattle.indicatif_term.proofs.OwnedLemmas.{count_same}
use Rattle.indicatif_term.proofs.TerminalStepLemmas.{rows_some}
use Rattle.indicatif_term.proofs.LayoutLemmas.{still_full, now_full}
use Rattle.indicatif_term.proofs.LaidLemmas.{laid_full, laid_below}
use Rattle.indicatif_term.proofs.engine.layout.lay_below.Goals as goal
use Rattle.indicatif_term.proofs.engine.layout.lay_below.Goals.{then-laid-via-then-laid, then-laid-via-else-laid+then-window-laid}

pub returns-then-laid : goal.returns-then-laid
returns-then-laid c =
    let w = c.args.window.columns in
    let l = c.args.laid.now in
    let p = c.requires.summed in
    let narrow : has_wide w (chars c.args.own.text.now) ≡ false = c.requires.sized.narrow in
    let s : BarRows = record { bar = c.args.own.bar; rows = rows_of w (chars c.args.own.text.now) } in
    record {
      laid = λ on. record {
        summed = record { fit = p.fit; lines_fit = p.lines_fit; passing_in = p.passing_in };
        passing_same = refl;
        blanks_same = refl;
        narrow = rw narrow refl;
        laid = λ before bars o. laid_full w c.args.window.rows on before bars c.args.own.text.now s l o (elim c.then-laid.branch [
          | then-laid-via-then-laid q ↦ still_full c.args.window.rows bars s l.plan o.counts o.laid q.if-laid.true
          | then-laid-via-else-laid+then-window-laid q ↦ now_full c.args.window.rows bars s l.plan o.counts o.laid q.if-laid.false
              (omega (arith, q.if-window-laid.true, c.requires.sized.rows_are))
        ]);
      };
    }

pub returns : goal.returns
returns c =
    let w = c.args.window.columns in
    let own = c.args.own.text.now in
    let p = c.requires.summed in
    let text = c.in_ok-text.ensures.text in
    let sized = c.requires.sized in
    let narrow : has_wide w (chars own) ≡ false = sized.narrow in
    let some : 0 < c.args.turn.rows = omega (arith, sized.rows_are, rows_some w (chars own)) in
    let s : BarRows = record { bar = c.args.own.bar; rows = rows_of w (chars own) } in
    record {
      laid = λ on. record {
        summed = record { fit = omega (arith, p.fit, c.if-window-laid.false); lines_fit = omega (arith, p.lines_fit, some); passing_in = omega (arith, p.passing_in) };
        passing_same = refl;
        blanks_same = refl;
        narrow = rw narrow refl;
        laid = λ before bars o. laid_below w c.args.window.rows on before bars own s c.args.laid.now o c.if-laid.false _ refl (ap (λ n. c.args.laid.now.plan.rows + n) sized.rows_are) refl refl
            (omega (arith, c.if-window-laid.false, sized.rows_are)) _ c.in_ok-push.ensures.items refl refl text (count_same c.args.own.bar c.args.turn.rows s refl sized.rows_are)
            (record {
              rows_are = sized.rows_are ∙ ap (λ y. length (rows_of w (chars y))) (sym text);
              last_is = sized.last_is ∙ ap (λ y. last_columns w (chars y)) (sym text);
              narrow = ap (λ y. has_wide w (chars y)) text ∙ sized.narrow;
              single = λ q. subst (λ y. IsRead (chars y)) (sym text) (sized.single q);
            }) (refl, tt);
      };
    }
