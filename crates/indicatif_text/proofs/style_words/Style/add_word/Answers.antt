use Rattle.std.specs.Prelude.{chars}
use Rattle.indicatif_text.specs.StyleWords.{foreground_number}
use Rattle.indicatif_text.proofs.StyleLemmas.{adds_colour, same_foreground}
use Rattle.indicatif_text.proofs.style_words.Style.add_word.Goals as goal

pub returns-in-Some : goal.returns-in-Some
returns-in-Some c = adds_colour c.args.self.now c.in-Some.colour (chars c.args.word.now) c.in-Some.ensures

pub returns : goal.returns
returns c =
    let e = c.with_other_word.ensures in
    record {
      foreground = same_foreground (foreground_number c.args.self.now) (foreground_number c.with_other_word.result) (chars c.args.word.now) e.foreground c.in_default.ensures;
      background = e.background;
      bold = e.bold;
      dim = e.dim;
      underlined = e.underlined;
      blink = e.blink;
      reverse = e.reverse;
      hidden = e.hidden;
    }
