use Rattle.std.proofs.Common.{ℕ, Bool, ◌≤◌, length, arith, subst}
use Rattle.std.specs.Prelude.{IsTrue, All, ◌&&◌}
use Rattle.std.specs.Int.{IsInRange}
use Rattle.std.specs.List.{slice_index_or}
use Rattle.std.proofs.lemmas.List.{take_all}
use Rattle.std.proofs.lemmas.List.Elements.{All-more}
use Rattle.std.proofs.lemmas.Bool.Decides.{nat_tests}
use Rattle.indicatif_term.proofs.engine.comparing.are_printable.Goals as goal

seen : (b : Bool) (x : ℕ) → IsTrue ((b && lib.Dec.leb 32 x) && lib.Dec.leb x 126) → IsTrue b × ((32 ≤ x) × (x ≤ 126))
seen b x t = grind (arith, nat_tests, t)

pub bytes-preserved : goal.bytes-preserved
bytes-preserved c t =
    let bytes = c.args.bytes.now in
    let parts = seen c.bytes.all (slice_index_or bytes c.bytes.byte-index 0) t in
    All-more (IsInRange 0x20 0x7E) bytes c.bytes.byte-index 0 (omega arith) (c.bytes.invariant parts.0) parts.1

pub returns : goal.returns
returns c t =
    let bytes = c.args.bytes.now in
    let past : length bytes ≤ c.bytes.byte-index = omega (arith, c.bytes-test.false) in
    subst (All (IsInRange 0x20 0x7E)) (take_all c.bytes.byte-index bytes past) (c.bytes.invariant t)
