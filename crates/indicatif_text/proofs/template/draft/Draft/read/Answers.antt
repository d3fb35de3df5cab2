use Rattle.std.proofs.Common.{◌∙◌, refl, sym, Ok}
use Rattle.std.specs.Prelude.{chars}
use Rattle.indicatif_text.specs.Template.{Break, Takes, opening_brace, closing_brace}
use Rattle.indicatif_text.specs.Inside.Draft.{sketch_of}
use Rattle.indicatif_text.proofs.DraftLemmas.{reads_run, IsReadBy, taken_read, is_line}
use Rattle.indicatif_text.proofs.TokenLemmas.{front_break, front_opened, front_closed}
use Rattle.indicatif_text.proofs.template.draft.Draft.read.Goals as goal

pub returns-in_default-clause-leads : goal.returns-in_default-clause-leads
returns-in_default-clause-leads c =
    reads_run (sketch_of c.args.self.now) (sketch_of c.push_run.new.self) (chars c.args.text.now) (chars c.split_span.result.0.now) (chars c.split_span.result.1.now)
    c.in_ok-push_run.ensures c.split_span.ensures.run c.split_span.ensures.rest

-- what an opening brace begins
opened : (c : goal.After-read_open) → IsReadBy (sketch_of c.args.self.now) (sketch_of c.read_open.new.self) (chars c.args.text.now) c.read_open.result
opened c =
    let after = chars c.in-Some.after.now in
    taken_read (sketch_of c.args.self.now) (sketch_of c.push_run.new.self) (sketch_of c.read_open.new.self)
    (chars c.args.text.now) (chars c.split_span.result.0.now) (chars c.split_span.result.1.now) after c.in-Some.first (opening_brace after)
    (front_opened c.in-Some.first after c.if-first-eq123.true) c.in_ok-push_run.ensures c.split_span.ensures.run c.split_span.ensures.rest c.in-Some.ensures.first
    c.read_open.result c.read_open.ensures

pub returns-then-first-eq123-clause-leads : goal.returns-then-first-eq123-clause-leads
returns-then-first-eq123-clause-leads c = (opened c).leads

pub returns-then-first-eq123-clause-refused : goal.returns-then-first-eq123-clause-refused
returns-then-first-eq123-clause-refused c = (opened c).refused

pub returns-then-first-eq123-clause-shorter : goal.returns-then-first-eq123-clause-shorter
returns-then-first-eq123-clause-shorter c = (opened c).shorter

-- what a closing brace begins
closed : (c : goal.After-read_close) → IsReadBy (sketch_of c.args.self.now) (sketch_of c.read_close.new.self) (chars c.args.text.now) c.read_close.result
closed c =
    let after = chars c.in-Some.after.now in
    taken_read (sketch_of c.args.self.now) (sketch_of c.push_run.new.self) (sketch_of c.read_close.new.self)
    (chars c.args.text.now) (chars c.split_span.result.0.now) (chars c.split_span.result.1.now) after c.in-Some.first (closing_brace after)
    (front_closed c.in-Some.first after c.if-first-eq125.true) c.in_ok-push_run.ensures c.split_span.ensures.run c.split_span.ensures.rest c.in-Some.ensures.first
    c.read_close.result c.read_close.ensures

pub returns-then-first-eq125-clause-leads : goal.returns-then-first-eq125-clause-leads
returns-then-first-eq125-clause-leads c = (closed c).leads

pub returns-then-first-eq125-clause-refused : goal.returns-then-first-eq125-clause-refused
returns-then-first-eq125-clause-refused c = (closed c).refused

pub returns-then-first-eq125-clause-shorter : goal.returns-then-first-eq125-clause-shorter
returns-then-first-eq125-clause-shorter c = (closed c).shorter

-- a newline
broken : (c : goal.After-after-2-1) → IsReadBy (sketch_of c.args.self.now) (sketch_of c.push_new_line.new.self) (chars c.args.text.now) (Ok c.in-Some.after)
broken c =
    let after = chars c.in-Some.after.now in
    let first = sym c.in-Some.ensures.first ∙ c.split_span.ensures.rest in
    taken_read (sketch_of c.args.self.now) (sketch_of c.push_run.new.self) (sketch_of c.push_new_line.new.self)
    (chars c.args.text.now) (chars c.split_span.result.0.now) (chars c.split_span.result.1.now) after c.in-Some.first (Takes after Break)
    (front_break c.in-Some.first after (is_line (chars c.args.text.now) after c.in-Some.first first c.if-first-eq123.false c.if-first-eq125.false))
    c.in_ok-push_run.ensures c.split_span.ensures.run c.split_span.ensures.rest c.in-Some.ensures.first (Ok c.in-Some.after) (Break, refl, c.in_ok-push_new_line.ensures)

pub returns-clause-leads : goal.returns-clause-leads
returns-clause-leads c = (broken c).leads

pub returns-clause-shorter : goal.returns-clause-shorter
returns-clause-shorter c = (broken c).shorter
