use Rattle.std.proofs.Common.{◌+◌, ◌*◌}
use Rattle.indicatif.proofs.parallel.visits.+halves.Given as goal

abbrev pub decreases-visited : goal.decreases-visited
decreases-visited g l = 2 * l.threads

abbrev pub decreases-first : goal.decreases-first
decreases-first g l = 2 * l.half + 1

abbrev pub decreases-second : goal.decreases-second
decreases-second g l = 2 * l.others + 1
