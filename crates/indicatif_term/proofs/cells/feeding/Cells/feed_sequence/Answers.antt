use Rattle.std.proofs.Common.{◌≡◌, ◌∙◌, ◌∷◌, [], ap, subst, sym, take}
use Rattle.std.specs.Prelude.{IsTrue, option_map, option_to_list}
use Rattle.indicatif_text.proofs.StyleLemmas.{at_err}
use Rattle.indicatif_term.specs.Inside.Scanners.{performed_all}
use Rattle.indicatif_term.specs.Terminal.{Terminal, sequence_op, after}
use Rattle.indicatif_term.specs.Inside.Grids.{op_of}
use Rattle.indicatif_term.proofs.WholeSequenceLemmas.{fed_sequence}
use Rattle.indicatif_term.specs.Feeding.{first_takes_memory}
use Rattle.indicatif_term.proofs.FeedMemoryLemmas.{sequence_takes}
use Rattle.indicatif_term.proofs.cells.feeding.Cells.feed_sequence.Goals as goal

pub returns-in_ok-perform-in-Some-clause-fed : goal.returns-in_ok-perform-in-Some-clause-fed
returns-in_ok-perform-in-Some-clause-fed c =
    let t : Terminal = record { screen = c.self.inside.grid; reader = c.self.inside.scanner } in
    let s = c.args.sequence in
    let asked : op_of c.in-Some.op ∷ [] ≡ option_to_list (sequence_op s.number s.last) = ap option_to_list (sym (ap (option_map op_of) c.in-Some.is) ∙ c.op.ensures) in
    fed_sequence t c.perform.new.self c.args.bytes.now s.number s.last s.len c.requires.whole (ap (λ u. u.reader) c.self.view_is ∙ c.requires.idle)
    (c.in_ok-perform-in-Some.ensures.ok ∙ ap (λ ops. performed_all ops t.screen) asked)
    ∙ ap (λ u. after u (take s.len c.args.bytes.now)) c.self.view_is

pub returns-in-None-clause-fed : goal.returns-in-None-clause-fed
returns-in-None-clause-fed c =
    let t = c.args.self.now in
    let s = c.args.sequence in
    let asked : [] ≡ option_to_list (sequence_op s.number s.last) = ap option_to_list (sym (ap (option_map op_of) c.in-None.is) ∙ c.op.ensures) in
    fed_sequence t t.screen c.args.bytes.now s.number s.last s.len c.requires.whole c.requires.idle (ap (λ ops. performed_all ops t.screen) asked)

pub returns-in_err-perform-in-Some-clause-memory : goal.returns-in_err-perform-in-Some-clause-memory
returns-in_err-perform-in-Some-clause-memory c =
    let t = c.args.self.now in
    let s = c.args.sequence in
    let asked : op_of c.in-Some.op ∷ [] ≡ option_to_list (sequence_op s.number s.last) = ap option_to_list (sym (ap (option_map op_of) c.in-Some.is) ∙ c.op.ensures) in
    let takes : IsTrue (first_takes_memory (op_of c.in-Some.op ∷ []) t.screen) =
    subst (λ u. IsTrue (first_takes_memory (op_of c.in-Some.op ∷ []) u.screen)) c.self.view_is c.in_err-perform-in-Some.ensures.memory in
    at_err c.from_residual.result (sequence_takes t c.args.bytes.now s.number s.last s.len (op_of c.in-Some.op ∷ []) c.requires.whole c.requires.idle asked takes)
