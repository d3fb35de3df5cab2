use Rattle.std.proofs.Common.{chars}
use Rattle.indicatif_text.specs.Inside.Spans.{in_words}
use Rattle.indicatif_text.proofs.StyleLemmas.{first_read, next_read, read_to_end, read_to_stop, dot_within}
use Rattle.indicatif_text.proofs.style_words.Style.read.Goals as goal
use Rattle.indicatif_text.proofs.style_words.Style.read.Goals.{in-Some+then-end-ne46, in_default}

pub loop-end-init : goal.loop-end-init
loop-end-init c = (
  c.split_span.ensures.utf8,
  first_read (in_words c.args.words) (chars c.args.text.now) c.add_word.new.self (chars c.split_span.result.0.now) (chars c.split_span.result.1.now)
      c.split_span.ensures.run c.split_span.ensures.rest c.add_word.ensures,
)

pub loop-end-preserved : goal.loop-end-preserved
loop-end-preserved c = (
  c.split_span-in-Some.ensures.utf8,
  next_read (in_words c.args.words) (chars c.args.text.now) (dot_within c.args.words) c.loop-end.style c.add_word-in-Some.new.self (chars c.loop-end.rest.now) (chars c.in-Some.left.now)
      (chars c.split_span-in-Some.result.0.now) (chars c.split_span-in-Some.result.1.now) c.in-Some.end c.loop-end.invariant.1 c.in-Some.ensures.first c.if-end-ne46.false
      c.split_span-in-Some.ensures.run c.split_span-in-Some.ensures.rest c.add_word-in-Some.ensures,
)

pub returns-clause-style : goal.returns-clause-style
returns-clause-style c = elim c.match-split_first.branch [
  | in-Some+then-end-ne46 w ↦ (read_to_stop (in_words c.args.words) (chars c.args.text.now) c.loop-end.style (chars c.loop-end.rest.now) w.in-Some.end (chars w.in-Some.left.now)
      c.loop-end.invariant.1 w.in-Some.ensures.first w.if-end-ne46.true).style
  | in_default w ↦ (read_to_end (in_words c.args.words) (chars c.args.text.now) c.loop-end.style (chars c.loop-end.rest.now) c.loop-end.invariant.1 w.in_default.ensures.first).style
]

pub returns-clause-rest : goal.returns-clause-rest
returns-clause-rest c = elim c.match-split_first.branch [
  | in-Some+then-end-ne46 w ↦ (read_to_stop (in_words c.args.words) (chars c.args.text.now) c.loop-end.style (chars c.loop-end.rest.now) w.in-Some.end (chars w.in-Some.left.now)
      c.loop-end.invariant.1 w.in-Some.ensures.first w.if-end-ne46.true).past
  | in_default w ↦ (read_to_end (in_words c.args.words) (chars c.args.text.now) c.loop-end.style (chars c.loop-end.rest.now) c.loop-end.invariant.1 w.in_default.ensures.first).past
]
