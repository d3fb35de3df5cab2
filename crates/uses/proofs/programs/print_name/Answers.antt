use Rattle.std.proofs.Common.{◌≡◌, ◌∙◌, ◌++◌, ◌∷◌, [], Some, ap, arith, map, refl, subst}
use Rattle.std.specs.Prelude.{string_bytes, codes, All}
use Rattle.std.proofs.lemmas.List.Elements.{All-from_recursion}
use Rattle.indicatif_text.specs.ColumnLaws.{PrintedIsPlain}
use Rattle.indicatif_term.specs.Lines.{logged_lines}
use Rattle.indicatif_bar.specs.PlainLaws.{IsPlainWithTabs}
use Rattle.indicatif_bar.specs.StyleLaws.{IsPlainText}
use Rattle.bars_run.specs.Arguments.{asked_by}
use Rattle.bars_run.specs.Cases.{small}
use Rattle.bars_run.specs.Commands.{Spelled, Add, Log, OfBar, Tick}
use Rattle.bars_run.specs.Player.{IsPlain}
use Rattle.bars_run.specs.Printing.{Prints}
use Rattle.uses.proofs.PlainLemmas.{first_name, first_plain, printed_plain}
use Rattle.uses.proofs.programs.print_name.Goals as goal

x_plain : PrintedIsPlain → IsPlainWithTabs (codes "x")
x_plain law tab = printed_plain law (codes "x") ((omega arith, omega arith), tt)

name_plain : PrintedIsPlain → All IsPlainText (logged_lines first_name)
name_plain law = All-from_recursion IsPlainText (first_name ∷ []) (first_plain law, tt)

pub returns : goal.returns
returns c = record {
  printed = λ done.
      let words = map (λ word. string_bytes word) c.args.words.now in
      let case = c.prints.ensures.log in
      let commands = Add (codes "x") ∷ OfBar (Some 1) Tick ∷ Log first_name ∷ [] in
      let asked : asked_by words ≡ Some small = ap asked_by c.requires.words ∙ refl in
      let all : All IsPlain commands = All-from_recursion IsPlain commands (x_plain c.columns.ensures.printed, (tt, (name_plain c.columns.ensures.printed, tt))) in
      let told : Prints words (codes "add x\ntick 1\nlog a.txt\n") (Some c.args.out.now.items) (Some c.run_bars.new.out.items) =
      subst (λ bytes. Prints words bytes (Some c.args.out.now.items) (Some c.run_bars.new.out.items)) c.requires.input (c.run_bars.ensures.printed done) in
      c.what_is_printed.ensures words (codes "add x\ntick 1\nlog a.txt\n") (Some c.args.out.now.items) (Some c.run_bars.new.out.items) small commands case.1 told asked case.0 case.2 all
      ∙ ap (λ bytes. c.args.out.now.items ++ bytes) case.4;
}
