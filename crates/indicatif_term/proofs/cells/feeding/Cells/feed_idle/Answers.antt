use Rattle.std.proofs.Common.{◌∙◌, ap, refl, take, arith}
use Rattle.indicatif_text.proofs.StyleLemmas.{at_err}
use Rattle.indicatif_term.specs.Terminal.{Terminal, after}
use Rattle.indicatif_term.proofs.FedRunLemmas.{ascii_narrow, fed_ascii}
use Rattle.indicatif_term.proofs.FeedMemoryLemmas.{ascii_takes, byte_takes}
use Rattle.indicatif_term.proofs.cells.feeding.Cells.feed_idle.Goals as goal

pub put_run-requires-clause-narrow : goal.put_run-requires-clause-narrow
put_run-requires-clause-narrow c = ascii_narrow (take c.printable_len-ascii.result c.args.bytes.now) c.printable_len-ascii.ensures.printable

pub returns-then-ascii-gt0-clause-fed : goal.returns-then-ascii-gt0-clause-fed
returns-then-ascii-gt0-clause-fed c =
    let t : Terminal = record { screen = c.self.inside.grid; reader = c.self.inside.scanner } in
    let bytes = c.args.bytes.now in
    let e = c.printable_len-ascii.ensures in
    let ascii = c.printable_len-ascii.result in
    fed_ascii t c.put_run.new.self bytes (take ascii bytes) ascii c.in_ok-put.put (ap (λ u. u.reader) c.self.view_is ∙ c.requires.idle) e.printable
    refl e.within c.in_ok-put.ensures.within c.in_ok-put.ensures.ok
    ∙ ap (λ u. after u (take c.in_ok-put.put bytes)) c.self.view_is

pub returns-in_err-put-clause-memory : goal.returns-in_err-put-clause-memory
returns-in_err-put-clause-memory c =
    let e = c.printable_len-ascii.ensures in
    at_err c.from_residual.result
    (ascii_takes c.args.self.now c.args.bytes.now c.printable_len-ascii.result (omega (arith, c.if-ascii-gt0.true)) e.within e.printable c.requires.idle)

pub returns-in_err-feed_byte-clause-memory : goal.returns-in_err-feed_byte-clause-memory
returns-in_err-feed_byte-clause-memory c =
    at_err c.from_residual-in_err-feed_byte.result (byte_takes c.args.self.now c.args.bytes.now _ c.requires.some refl c.in_err-feed_byte.ensures.memory)
