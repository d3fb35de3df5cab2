use Rattle.std.proofs.Common.{◌≡◌, ◌+◌, ◌∷◌, [], ◌++◌, map, take, take_all, sym, ◌∙◌, ap, subst, arith, List, ℕ}
use Rattle.std.specs.Prelude.{string_bytes}
use Rattle.std.specs.Io.KnownBytes.{Appends}
use Rattle.std.proofs.lemmas.List.{take_more, map-append}
use Rattle.indicatif_term.proofs.WriterLemmas.{appends_more, appends_kept, appends_none}
use Rattle.bars_run.proofs.PrintLemmas.{ended, ended-push}
use Rattle.bars_run.proofs.print.Goals as goal

pub loop-row-init : goal.loop-row-init
loop-row-init g c = appends_none _
