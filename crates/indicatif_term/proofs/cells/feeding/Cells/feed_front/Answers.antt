use Rattle.std.proofs.Common.{◌∙◌, ap, refl, sym}
use Rattle.indicatif_text.proofs.StyleLemmas.{at_err}
use Rattle.indicatif_term.proofs.FeedMemoryLemmas.{byte_takes}
use Rattle.indicatif_term.proofs.cells.feeding.Cells.feed_front.Goals as goal

pub feed_idle-requires-clause-idle : goal.feed_idle-requires-clause-idle
feed_idle-requires-clause-idle c = sym (ap (λ u. u.reader) c.self.view_is) ∙ c.is_idle.ensures c.if-is_idle.true

pub returns-in_err-feed_byte-clause-memory : goal.returns-in_err-feed_byte-clause-memory
returns-in_err-feed_byte-clause-memory c =
    at_err c.from_residual.result (byte_takes c.args.self.now c.args.bytes.now _ c.requires refl c.in_err-feed_byte.ensures.memory)
