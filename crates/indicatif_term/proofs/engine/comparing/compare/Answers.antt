use Rattle.std.proofs.Common.{◌+◌, ◌∙◌, sym, ap, refl, chars, length}
use Rattle.std.specs.Prelude.{string_bytes}
use Rattle.indicatif_text.specs.Columns.{rows_of}
use Rattle.indicatif_term.specs.Shows.{looks_of}
use Rattle.indicatif_term.proofs.ComeLemmas.{parted_becomes, parted_turned}
use Rattle.indicatif_term.proofs.PartingLemmas.{parted_last, parted_narrow}
use Rattle.indicatif_term.proofs.engine.comparing.compare.Goals as goal

pub returns-in-Some-clause-sized : goal.returns-in-Some-clause-sized
returns-in-Some-clause-sized c =
    let w = c.args.window.columns in
    let old = string_bytes c.args.line.now.text in
    let p = c.in-Some.part in
    let d = c.in-Some.ensures.parted in
    record {
      rows_are = sym (parted_becomes w c.args.waits old c.args.text.now p d (looks_of (rows_of w (chars old))) refl).1;
      last_is = d.last_is ∙ ap (λ cs. p.gap + length cs) (sym d.news_are) ∙ sym (parted_last w p.gap p.left (chars old) (chars c.args.text.now) d.tails);
      narrow = parted_narrow w p.gap p.left (chars old) (chars c.args.text.now) d.tails c.requires.line.narrow;
      single = λ _. d.read;
    }

pub returns-in-Some-clause-turned : goal.returns-in-Some-clause-turned
returns-in-Some-clause-turned c =
    parted_turned c.args.window.columns c.args.waits (string_bytes c.args.line.now.text) c.args.text.now c.in-Some.part c.in-Some.ensures.small c.in-Some.ensures.parted
