use Rattle.indicatif.specs.Wrap.{inner_of}
use Rattle.indicatif.proofs.laws.a_wrapped_end_stays.Goals as goal

pub returns : goal.returns
returns g c = λ stays s m t item end next. stays (inner_of s) (inner_of m) (inner_of t) item end.0 next.0
