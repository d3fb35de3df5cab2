use Rattle.std.proofs.Common.{◌≡◌, ◌≤◌, ◌+◌, ◌-◌, ◌∙◌, length, take, drop, take_all, length-drop, ap, arith}
use Rattle.indicatif_term.proofs.EngineResizeLemmas.{last_heights, resized_suits}
use Rattle.indicatif_term.proofs.engine.Engine.cut.Goals as goal

pub returns-clause-suits : goal.returns-clause-suits
returns-clause-suits g c = λ l s sound.
    let e = c.args.self.now in
    let w = c.width.result in
    let hs = c.in_ok-cut.cut.heights.items in
    let d = c.deref.result.now in
    let standing = e.counts.kept + e.counts.live in
    let at = c.len-2.result - standing in
    let at_is : at ≡ length hs - standing = omega (arith, c.len-2.ensures) in
    let enough : standing ≤ length hs = omega (arith, c.len.ensures, c.if-len-standing.false) in
    let last : take (length d - at) (drop at d) ≡ drop (length hs - standing) hs =
    take_all (length d - at) (drop at d) (omega (arith, length-drop at d)) ∙ ap (drop at) c.deref.ensures.value ∙ ap (λ k. drop k hs) at_is in
    let x = c.in_ok-cut.ensures.cut in
    let counted = c.in_ok-counts.ensures.counts w c.args.cols l s.counted
    (last ∙ last_heights w c.args.cols c.args.rows l e.counts c.in_ok-counts.counts e.failed e.shown c.of.result c.in_ok-cut.cut s sound c.requires.rows x enough) in
    resized_suits w c.args.cols c.args.rows l e.counts c.in_ok-counts.counts e.failed e.shown c.of.result c.in_ok-cut.cut s sound c.requires.rows x enough counted
    c.of.ensures.lines c.of.ensures.width c.of.ensures.live
