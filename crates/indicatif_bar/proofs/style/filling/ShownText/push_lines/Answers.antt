use Rattle.std.proofs.Common.{◌≡◌, ◌++◌, sym, subst, map, string_bytes, false}
use Rattle.std.specs.Prelude.{OnOk}
use Rattle.std.specs.List.{list_any}
use Rattle.indicatif_term.specs.Lines.{line_text}
use Rattle.indicatif_bar.specs.Styles.{is_newline}
use Rattle.indicatif_bar.proofs.ScanLemmas.{whole}
use Rattle.indicatif_bar.proofs.style.filling.ShownText.push_lines.Goals as goal

pub returns-then-not-has_break-clause-lines : goal.returns-then-not-has_break-clause-lines
returns-then-not-has_break-clause-lines c =
    let text = string_bytes c.args.self.text in
    let none : list_any is_newline text ≡ false = c.args.self.one_line c.if-not-has_break.true in
    subst (λ ls. OnOk c.push_line.result (map line_text c.push_line.new.lines.items ≡ map line_text c.args.lines.now.items ++ ls)) (sym (whole 0x0A text none)) c.push_line.ensures.lines
