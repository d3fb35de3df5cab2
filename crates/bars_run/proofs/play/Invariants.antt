use Rattle.std.proofs.Common.{[]}
use Rattle.std.specs.Prelude.{IfSome}
use Rattle.std.specs.Io.Iter.{split_byte, split_known_bytes}
use Rattle.bars_run.specs.declared.arguments.Asked.{Asked}
use Rattle.bars_run.specs.Inside.Players.{HasPlayed}
use Rattle.bars_run.proofs.ReadLemmas.{Reads}
use Rattle.bars_run.proofs.play.Given as goal

abbrev pub invariant-loop-line : goal.invariant-loop-line
invariant-loop-line g l = (asked : Asked) → HasPlayed asked [] l.fn.player.board →
    IfSome (g.R.Read.remaining l.fn.input) (λ bytes. Reads asked l.number bytes (split_known_bytes g.R.Read.remaining l.line-iterator) (split_byte l.line-iterator) l.player.board)
