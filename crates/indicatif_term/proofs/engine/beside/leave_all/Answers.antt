use Rattle.std.proofs.Common.{arith, ◌<◌, refl, sym, ◌∙◌, ap, ◌≡◌, ◌∷◌, [], take, take_all, length, subst, get_or}
use Rattle.std.specs.List.{AllByRecursion}
use Rattle.std.specs.Prelude.{string_bytes}
use Rattle.std.proofs.lemmas.List.{length-map, take_more_set}
use Rattle.indicatif_term.specs.Standing.{IsLine}
use Rattle.indicatif_term.specs.declared.engine.remembered.StandingLine.{StandingLine}
use Rattle.indicatif_term.proofs.BesideLemmas.{all_append, all_at, all_set, noted_line, texts_noted, counts_set}
use Rattle.indicatif_term.proofs.RenewedLemmas.{IsLeft, in_place, all_over}
use Rattle.indicatif_term.proofs.engine.beside.leave_all.Goals as goal

pub loop-at-init : goal.loop-at-init
loop-at-init c = record { texts_same = refl; counts_same = refl; right = λ w all. all; left = tt }

pub loop-at-preserved : goal.loop-at-preserved
loop-at-preserved c =
    let ys = c.loop-at.lines in
    let i = c.loop-at.at in
    let x = get_or ys i c.index-lines-at.result in
    let old = c.loop-at.invariant in
    let bytes = λ (l : StandingLine). string_bytes l.text in
    let h : i < length ys = omega (arith, ap length old.texts_same, length-map ys bytes, length-map c.args.lines.now bytes, c.loop-at-test.true) in
    let e = ap (get_or ys i) (sym c.index-lines-at.is) in
    record {
      texts_same = texts_noted ys i x _ e ∙ old.texts_same;
      counts_same = counts_set ys i x _ e refl ∙ old.counts_same;
      right = λ w all. all_set (IsLine w) ys i _ (noted_line w x _ (all_at (IsLine w) ys i x h e (old.right w all))) (old.right w all);
      left = subst (AllByRecursion IsLeft) (sym (take_more_set ys i _ h)) (all_append IsLeft (take i ys) (_ ∷ []) old.left (refl, tt));
    }

pub returns : goal.returns
returns c =
    let ys = c.loop-at.lines in
    let bytes = λ (l : StandingLine). string_bytes l.text in
    let all : take c.loop-at.at ys ≡ ys = take_all c.loop-at.at ys
    (omega (arith, ap length c.loop-at.invariant.texts_same, length-map ys bytes, length-map c.args.lines.now bytes, c.loop-at-test.false)) in
    record {
      texts = c.loop-at.invariant.texts_same;
      counts = c.loop-at.invariant.counts_same;
      in_place = λ w all. in_place w c.args.lines.now ys all (c.loop-at.invariant.right w all) c.loop-at.invariant.texts_same;
      over = λ w. all_over w c.args.lines.now ys c.loop-at.invariant.texts_same (subst (AllByRecursion IsLeft) all c.loop-at.invariant.left);
    }
