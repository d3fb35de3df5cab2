use Rattle.std.proofs.Common.{chars}
use Rattle.indicatif_bar.proofs.BuilderLemmas.{refused_by}
use Rattle.indicatif_bar.proofs.style.builders.parsed.Goals as goal

pub returns-in-Err-clause-refused : goal.returns-in-Err-clause-refused
returns-in-Err-clause-refused c = refused_by (chars c.args.text.now) c.in-Err.error c.from.result c.from.ensures
    (λ n. (c.parse.ensures.refused c.in-Err.error (λ q. n (cc (c.in-Err.is, q)))).0 c.in-Err.is)
