use Rattle.std.proofs.Common.{sym, ap, refl}
use Rattle.std.specs.Str.{chars, bytes_eq}
use Rattle.std.specs.List.{position}
use Rattle.indicatif_text.specs.StyleWords.{colour_words}
use Rattle.indicatif_text.proofs.StyleLemmas.{other_word}
use Rattle.indicatif_text.proofs.style_words.colour_of.Goals as goal

pub returns-in-black : goal.returns-in-black
unfolding chars
returns-in-black c = ap (λ word. position (bytes_eq (chars word)) colour_words) (sym c.in-black.is)

pub returns-in-red : goal.returns-in-red
unfolding chars
returns-in-red c = ap (λ word. position (bytes_eq (chars word)) colour_words) (sym c.in-red.is)

pub returns-in-green : goal.returns-in-green
unfolding chars
returns-in-green c = ap (λ word. position (bytes_eq (chars word)) colour_words) (sym c.in-green.is)

pub returns-in-yellow : goal.returns-in-yellow
unfolding chars
returns-in-yellow c = ap (λ word. position (bytes_eq (chars word)) colour_words) (sym c.in-yellow.is)

pub returns-in-blue : goal.returns-in-blue
unfolding chars
returns-in-blue c = ap (λ word. position (bytes_eq (chars word)) colour_words) (sym c.in-blue.is)

pub returns-in-magenta : goal.returns-in-magenta
unfolding chars
returns-in-magenta c = ap (λ word. position (bytes_eq (chars word)) colour_words) (sym c.in-magenta.is)

pub returns-in-cyan : goal.returns-in-cyan
unfolding chars
returns-in-cyan c = ap (λ word. position (bytes_eq (chars word)) colour_words) (sym c.in-cyan.is)

pub returns-in-white : goal.returns-in-white
unfolding chars
returns-in-white c = ap (λ word. position (bytes_eq (chars word)) colour_words) (sym c.in-white.is)

pub returns-in_default : goal.returns-in_default
returns-in_default c =
    let word = c.args.word.now in
    let u = c.utf8.word in
    let d = c.in_default in
    rw (
      other_word word _ u refl d.not-black,
      other_word word _ u refl d.not-red,
      other_word word _ u refl d.not-green,
      other_word word _ u refl d.not-yellow,
      other_word word _ u refl d.not-blue,
      other_word word _ u refl d.not-magenta,
      other_word word _ u refl d.not-cyan,
      other_word word _ u refl d.not-white,
    ) refl
