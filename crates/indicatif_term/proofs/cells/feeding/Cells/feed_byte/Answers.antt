use Rattle.std.proofs.Common.{◌≡◌, ◌∙◌, ◌∷◌, [], ap, subst, sym}
use Rattle.std.specs.Prelude.{IsTrue, option_map, option_to_list}
use Rattle.indicatif_text.proofs.StyleLemmas.{at_err}
use Rattle.indicatif_term.specs.Feeding.{first_takes_memory}
use Rattle.indicatif_term.specs.Terminal.{Terminal, after}
use Rattle.indicatif_term.specs.Inside.Scanners.{byte_ops}
use Rattle.indicatif_term.specs.Inside.Grids.{op_of}
use Rattle.indicatif_term.proofs.FeedLemmas.{fed_one, fed_none}
use Rattle.indicatif_term.proofs.cells.feeding.Cells.feed_byte.Goals.{in-Some+in_ok-perform-in-Some, in-None}
use Rattle.indicatif_term.proofs.cells.feeding.Cells.feed_byte.Goals as goal

pub returns-clause-fed : goal.returns-clause-fed
returns-clause-fed c =
    let t : Terminal = record { screen = c.self.inside.grid; reader = c.self.inside.scanner } in
    let same = ap (λ u. after u (c.args.byte ∷ [])) c.self.view_is in
    elim c.match-reading.branch [
      | in-Some+in_ok-perform-in-Some w ↦
          let asked : op_of w.in-Some.op ∷ [] ≡ byte_ops t.reader c.args.byte = ap option_to_list (sym (ap (option_map op_of) w.in-Some.is) ∙ c.read-reading.ensures.op) in
          fed_one t c.args.byte (op_of w.in-Some.op) _ _ asked (ap (λ i. i.grid) w.self-inside-is ∙ w.in_ok-perform-in-Some.ensures.ok) c.read-reading.ensures.next ∙ same
      | in-None w ↦
          let asked : [] ≡ byte_ops t.reader c.args.byte = ap option_to_list (sym (ap (option_map op_of) w.in-None.is) ∙ c.read-reading.ensures.op) in
          ap (λ i. let u : Terminal = record { screen = i.grid; reader = c.read-reading.result.next } in u) w.self-inside-is
          ∙ fed_none t c.args.byte _ asked c.read-reading.ensures.next ∙ same
    ]

pub returns-in_err-perform-in-Some-clause-memory : goal.returns-in_err-perform-in-Some-clause-memory
returns-in_err-perform-in-Some-clause-memory c =
    let t : Terminal = record { screen = c.self.inside.grid; reader = c.self.inside.scanner } in
    let asked : op_of c.in-Some.op ∷ [] ≡ byte_ops t.reader c.args.byte = ap option_to_list (sym (ap (option_map op_of) c.in-Some.is) ∙ c.read-reading.ensures.op) in
    let takes : IsTrue (first_takes_memory (byte_ops t.reader c.args.byte) t.screen) =
    subst (λ ops. IsTrue (first_takes_memory ops t.screen)) asked c.in_err-perform-in-Some.ensures.memory in
    at_err c.from_residual.result (subst (λ u. IsTrue (first_takes_memory (byte_ops u.reader c.args.byte) u.screen)) c.self.view_is takes)
