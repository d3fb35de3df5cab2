use Rattle.std.proofs.Common.{◌≡◌, ◌++◌, replicate, string_bytes}
use Rattle.indicatif_bar.proofs.tabs.push_spaces.Given as goal

abbrev pub invariant-spaces : goal.invariant-spaces
invariant-spaces l = string_bytes l.out ≡ string_bytes l.initial.out ++ replicate l.counter 0x20
