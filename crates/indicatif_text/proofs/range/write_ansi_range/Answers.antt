use Rattle.std.proofs.Common.{ap, length, string_bytes}
use Rattle.std.proofs.lemmas.Str.{IsUtf8-string_bytes}
use Rattle.indicatif_text.proofs.RangeLemmas.{seam}
use Rattle.indicatif_text.proofs.range.write_ansi_range.Goals as goal

pub truncate-requires : goal.truncate-requires
truncate-requires c =
    let size = ap length c.as_str-before.ensures.value in
    let place = seam (string_bytes c.args.out.now) (string_bytes c.push_range.new.out)
    _ size (IsUtf8-string_bytes c.args.out.now) (IsUtf8-string_bytes c.push_range.new.out) c.push_range.ensures.grown in
    λ _. (place.0, λ _ within. place.1 within)
