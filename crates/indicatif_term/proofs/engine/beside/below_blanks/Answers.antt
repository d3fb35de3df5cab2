use Rattle.std.proofs.Common.{arith, ◌≡◌, refl, sym, ◌∙◌, ap, subst, true, append-nil, append_assoc, ◌++◌, ◌∷◌, []}
use Rattle.std.specs.Prelude.{string_bytes}
use Rattle.std.proofs.lemmas.List.{map-append}
use Rattle.indicatif_term.specs.Counts.{line_count, line_counts}
use Rattle.indicatif_term.specs.Standing.{texts, IsLine, AreLines}
use Rattle.indicatif_term.specs.Inside.Layouts.{AreWhole}
use Rattle.indicatif_term.specs.declared.engine.comparing.Step.TheVariants.{Whole}
use Rattle.indicatif_term.specs.declared.engine.remembered.StandingLine.{StandingLine}
use Rattle.indicatif_term.proofs.BesideLemmas.{AreBlanks, all_append, no_blanks_yet, one_blank_more, turned}
use Rattle.indicatif_term.proofs.LaidLemmas.{laid_blanks}
use Rattle.indicatif_term.proofs.engine.beside.below_blanks.Goals as goal

pub loop-init : goal.loop-init
loop-init c = record { blanks = []; are = no_blanks_yet; more = sym (append-nil c.args.laid.now.more.items); plan = refl; at = refl; changed = refl }

pub loop-preserved : goal.loop-preserved
loop-preserved c =
    let i = c.loop.invariant in
    let x : StandingLine = record { bar = 0; text = c.no_text.result; before = c.no_text-in-loop.result; rows = 1; last = 0; narrow = true; step = Whole } in
    record {
      blanks = i.blanks ++ x ∷ [];
      are = one_blank_more c.loop.counter i.blanks x i.are c.no_text.ensures refl refl refl refl;
      more = c.in_ok-push.ensures.items ∙ ap (λ ys. ys ++ x ∷ []) i.more ∙ append_assoc c.args.laid.now.more.items i.blanks (x ∷ []);
      plan = i.plan;
      at = i.at;
      changed = i.changed;
    }

pub returns-clause-laid : goal.returns-clause-laid
returns-clause-laid c = λ w h pass on frame f none.
    let i = c.loop.invariant in
    let xs = c.args.laid.now.more.items in
    let bytes = λ (l : StandingLine). string_bytes l.text in
    let count : c.loop.counter ≡ c.args.blanks = omega arith in
    let are : AreBlanks c.args.blanks i.blanks = subst (λ n. AreBlanks n i.blanks) count i.are in
    let e : c.rotate_right.new.self.items ≡ i.blanks ++ xs = c.rotate_right.ensures.items ∙ turned c.loop.laid.more.items xs i.blanks _ c.args.blanks i.more are (omega arith) in
    laid_blanks w h pass on frame c.args.laid.now _ none f i.plan i.at i.changed (ap texts e ∙ map-append bytes i.blanks xs ∙ ap (λ ys. ys ++ texts xs) are.empty)
    (ap line_counts e ∙ map-append line_count i.blanks xs ∙ ap (λ ys. ys ++ line_counts xs) are.counts)
    (λ v all. subst (AreLines v) (sym e) (all_append (IsLine v) i.blanks xs (are.lines v) all))
    (λ all. subst AreWhole (sym e) (all_append (λ (l : StandingLine). l.step ≡ Whole) i.blanks xs are.whole all))
