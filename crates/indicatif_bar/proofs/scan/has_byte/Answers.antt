use Rattle.std.proofs.Common.{ap, ◌∙◌}
use Rattle.std.specs.Prelude.{◌==◌}
use Rattle.std.specs.List.{list_any}
use Rattle.indicatif_bar.proofs.ScanLemmas.{found}
use Rattle.indicatif_bar.proofs.scan.has_byte.Goals as goal

pub returns : goal.returns
returns c = c.is_some.ensures ∙ found c.args.byte c.as_bytes.result.now c.memchr.result c.memchr.ensures ∙ ap (list_any (λ b. b == c.args.byte)) c.as_bytes.ensures.value
