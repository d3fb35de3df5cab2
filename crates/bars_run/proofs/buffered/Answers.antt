use Rattle.std.proofs.Common.{◌∙◌, ◌≡◌, ap, [], None, eqb, false, if◌then◌else◌}
use Rattle.std.specs.Prelude.{◌==◌}
use Rattle.std.specs.Io.Buffered.{reader_inner, reader_buffer, reader_capacity}
use Rattle.std.specs.Io.KnownBytes.{prepend_known}
use Rattle.bars_run.proofs.ReadLemmas.{nothing_ahead}
use Rattle.bars_run.proofs.buffered.Goals as goal

pub returns-in-Ok-clause-remaining : goal.returns-in-Ok-clause-remaining
returns-in-Ok-clause-remaining g c =
    let reader = c.in-Ok.reader in
    let known = g.R.Read.remaining (reader_inner reader).0 in
    let room : (reader_capacity reader == 0) ≡ false = ap (λ n. n == 0) c.in-Ok.ensures.capacity in
    ap (λ b. if b then None else prepend_known (reader_buffer reader) known) room ∙ ap (λ xs. prepend_known xs known) c.in-Ok.ensures.empty ∙ nothing_ahead known
    ∙ ap (λ i. g.R.Read.remaining i.0) c.in-Ok.ensures.inner
