use Rattle.std.proofs.Common.{◌≡◌, ◌∙◌, true, subst, sym, ap, chars}
use Rattle.std.specs.Prelude.{string_bytes}
use Rattle.std.specs.List.{list_all}
use Rattle.indicatif_text.specs.Columns.{glyphs_of, visible}
use Rattle.indicatif_term.specs.Resizes.{has_place}
use Rattle.indicatif_term.proofs.CutTextLemmas.{line_placed}
use Rattle.indicatif_term.proofs.engine.recutting.CutLines.add_line.Goals as goal

pub add_rows-requires : goal.add_rows-requires
add_rows-requires c =
    let w = c.args.widths.from in
    record {
      placed = subst (λ cs. list_all (has_place w) (glyphs_of cs) ≡ true) (sym (c.deref-2.ensures.value ∙ c.in_ok-seen.ensures.read ∙ ap (λ t. visible (chars t)) c.deref.ensures))
          (line_placed w (chars (string_bytes c.args.line.now.text)) c.requires.standing.narrow);
    }
