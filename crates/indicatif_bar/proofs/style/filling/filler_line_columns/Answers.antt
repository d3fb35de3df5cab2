use Rattle.std.proofs.Common.{◌∙◌, sym, ap}
use Rattle.std.specs.List.{slice_split}
use Rattle.indicatif_bar.specs.Styles.{is_newline}
use Rattle.indicatif_bar.proofs.FillingLemmas.{first_filler, filler_behind}
use Rattle.indicatif_bar.proofs.OneLineLemmas.{columns_of_line}
use Rattle.indicatif_bar.proofs.style.filling.filler_line_columns.Goals as goal

pub lines-preserved : goal.lines-preserved
lines-preserved c =
    let unfilled = sym c.has_filler.ensures ∙ c.if-has_filler.false in
    record {
      same = sym (filler_behind c.in-Some.line.now (slice_split is_newline c.in-Some.behind.now) unfilled) ∙ ap first_filler (sym c.in-Some.ensures.parts) ∙ c.lines.invariant.same;
      utf8 = c.in-Some.ensures.utf8;
    }

pub returns-then-not-has_break : goal.returns-then-not-has_break
returns-then-not-has_break c =
    c.columns_behind_filler.ensures ∙ sym (columns_of_line c.args.text.now (sym c.requires.has_break ∙ c.if-not-has_break.true) c.requires.has_filler)
