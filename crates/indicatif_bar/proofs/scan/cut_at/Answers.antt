use Rattle.std.proofs.Common.{arith, ◌+◌, sym, subst}
use Rattle.std.specs.Str.{IsUtf8}
use Rattle.std.proofs.lemmas.Str.{IsCharBoundary-after_ascii, IsUtf8-drop}
use Rattle.indicatif_bar.proofs.ScanLemmas.{one_part_of, parts_of, found_at}
use Rattle.indicatif_bar.proofs.scan.cut_at.Goals as goal

pub split_at-requires-2 : goal.split_at-requires-2
split_at-requires-2 c =
    let at = found_at c.args.byte c.args.text.now c.as_bytes.result.now c.as_bytes.ensures.value c.memchr.result c.memchr.ensures c.in-Some.place c.in-Some.is in
    IsCharBoundary-after_ascii c.args.text.now c.in-Some.place c.utf8.text at.0 (omega (arith, at.1, c.requires.ascii))

pub returns-in_default-clause-parts : goal.returns-in_default-clause-parts
returns-in_default-clause-parts c = one_part_of c.args.byte c.args.text.now c.as_bytes.result.now c.as_bytes.ensures.value c.memchr.result c.memchr.ensures c.in_default.is

pub returns-clause-parts : goal.returns-clause-parts
returns-clause-parts c =
    parts_of c.args.byte c.args.text.now c.as_bytes.result.now c.as_bytes.ensures.value c.memchr.result c.memchr.ensures c.in-Some.place c.split_at.result.0.now
    c.split_at-2.result.1.now c.in-Some.is c.split_at.ensures.front c.split_at-2.ensures.back

pub returns-clause-utf8 : goal.returns-clause-utf8
returns-clause-utf8 c =
    let at = found_at c.args.byte c.args.text.now c.as_bytes.result.now c.as_bytes.ensures.value c.memchr.result c.memchr.ensures c.in-Some.place c.in-Some.is in
    let boundary = IsCharBoundary-after_ascii c.args.text.now c.in-Some.place c.utf8.text at.0 (omega (arith, at.1, c.requires.ascii)) in
    subst IsUtf8 (sym c.split_at-2.ensures.back) (IsUtf8-drop c.args.text.now (c.in-Some.place + 1) c.utf8.text boundary)
