use Rattle.std.proofs.Common.{◌-◌, drop, arith, take_all, length-drop}
use Rattle.indicatif_text.proofs.format.short_text.ShortText.as_str.Goals as goal

pub ascii_text-requires : goal.ascii_text-requires
ascii_text-requires c =
    let text = c.self.inside in
    rw (take_all (64 - text.start) (drop text.start text.bytes) (omega (arith, length-drop text.start text.bytes))) c.self.invariant.1
