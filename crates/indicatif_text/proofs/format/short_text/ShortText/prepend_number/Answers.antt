use Rattle.std.proofs.Common.{arith}
use Rattle.std.proofs.lemmas.Fmt.{IsAscii-decimal}
use Rattle.std.proofs.lemmas.Str.{IsAscii-append}
use Rattle.indicatif_text.proofs.format.short_text.ShortText.prepend_number.Goals as goal

pub invariant_of-self : goal.invariant_of-self
invariant_of-self c =
    let w = c.write_digits-self-inside.ensures in
    (omega arith, rw w.written (IsAscii-append _ _ (IsAscii-decimal c.args.n (omega arith)) c.self.invariant.1))
