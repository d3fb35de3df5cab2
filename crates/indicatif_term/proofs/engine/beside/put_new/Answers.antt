use Rattle.std.proofs.Common.{arith, ◌≡◌, ℕ, get_or, sym, ◌∙◌, ap, subst, length, [], ◌++◌, ◌∷◌}
use Rattle.std.specs.Prelude.{string_bytes, option_to_list}
use Rattle.std.proofs.lemmas.List.{length-map, length-set, get_or-set_other}
use Rattle.indicatif_term.specs.Standing.{texts}
use Rattle.indicatif_term.specs.Inside.Renewed.{FitsIn, AreFitting, renewed}
use Rattle.indicatif_term.specs.declared.engine.remembered.StandingLine.{StandingLine}
use Rattle.indicatif_term.proofs.RenewedLemmas.{fits_front, renewed-push}
use Rattle.indicatif_term.proofs.engine.beside.put_new.Goals as goal

pub loop-line-init : goal.loop-line-init
loop-line-init c =
    let bytes = λ (l : StandingLine). string_bytes l.text in
    let same = c.leave_all.ensures.texts in
    record {
      texts_are = ap (λ ts. renewed ts c.args.changed.now.items) same;
      counts_same = c.leave_all.ensures.counts;
      count = sym (length-map c.leave_all.new.lines bytes) ∙ ap length same ∙ length-map c.args.lines.now bytes;
      in_place = λ w all f. c.leave_all.ensures.in_place w all;
      pending = λ w f. (length c.args.lines.now, omega arith, f, λ i h. ap (λ ts. get_or ts i []) same);
      over = λ w f. c.leave_all.ensures.over w;
    }

pub put_line-requires : goal.put_line-requires
put_line-requires c =
    let old = c.loop-line.invariant in
    let w = c.requires.within.0 in
    let on = c.args.lines.now in
    let popped = c.pop.ensures.items ∙ ap (λ o. c.pop.new.self.items ++ option_to_list o) c.in-Some.is in
    let p = old.pending w c.requires.within.1 in
    let front = fits_front w on 0 p.0 c.pop.new.self.items c.in-Some.line (subst (AreFitting w on p.0) popped p.2) in
    record { within = omega (arith, front.1.0, p.1, old.count) }

pub loop-line-preserved : goal.loop-line-preserved
loop-line-preserved c =
    let old = c.loop-line.invariant in
    let on = c.args.lines.now in
    let ys = c.loop-line.lines in
    let zs = c.put_line.new.lines in
    let rest = c.pop.new.self.items in
    let line = c.in-Some.line in
    let bytes = λ (l : StandingLine). string_bytes l.text in
    let popped : c.loop-line.changed.items ≡ rest ++ line ∷ [] = c.pop.ensures.items ∙ ap (λ o. rest ++ option_to_list o) c.in-Some.is in
    let fits = λ (w : ℕ) (f : AreFitting w on (length on) c.args.changed.now.items).
    let p = old.pending w f in
    let front = fits_front w on 0 p.0 rest line (subst (AreFitting w on p.0) popped p.2) in
    let own : FitsIn w on (length on) line = (omega (arith, front.1.0, p.1), front.1.1) in
    own in
    record {
      texts_are = ap (λ ts. renewed ts rest) c.put_line.ensures.texts ∙ sym (renewed-push (texts ys) rest line) ∙ ap (renewed (texts ys)) (sym popped) ∙ old.texts_are;
      counts_same = c.put_line.ensures.counts ∙ old.counts_same;
      count = sym (length-map zs bytes) ∙ ap length c.put_line.ensures.texts ∙ length-set (texts ys) line.at (string_bytes line.text) ∙ length-map ys bytes ∙ old.count;
      in_place = λ w all f. c.put_line.ensures.in_place w on (old.in_place w all f) (fits w f);
      pending = λ w f.
          let p = old.pending w f in
          let front = fits_front w on 0 p.0 rest line (subst (AreFitting w on p.0) popped p.2) in (
            line.at,
            omega (arith, front.1.0, p.1),
            front.0,
            λ i h. ap (λ ts. get_or ts i []) c.put_line.ensures.texts ∙ get_or-set_other (texts ys) line.at i (string_bytes line.text) [] (λ e. absurd (omega (arith, h, e)))
                ∙ p.3 i (omega (arith, h, front.1.0)),
          );
      over = λ w f. let p = old.pending w f in c.put_line.ensures.over w on (old.over w f) (fits w f)
          (p.3 line.at (fits_front w on 0 p.0 rest line (subst (AreFitting w on p.0) popped p.2)).1.0);
    }
