use Rattle.std.proofs.Common.{◌++◌, ◌-◌, ◌∙◌, sym, ap, string_bytes}
use Rattle.indicatif_bar.specs.Layout.{spaces}
use Rattle.indicatif_bar.proofs.LayoutLemmas.{times_space, grown_three}
use Rattle.indicatif_bar.proofs.style.padding.push_surrounded.Goals as goal

pub returns : goal.returns
returns c =
    let n = c.blanks_before-before.result in
    let front = c.in_ok-push_times.ensures ∙ ap (λ t. string_bytes c.args.out.now ++ t) (times_space n) in
    let back = c.in_ok-push_times-2.ensures ∙ ap (λ t. string_bytes c.push_str.new.self ++ t) (times_space (c.args.blanks - n)) in
    grown_three _ _ _ _ (spaces n) c.args.text.now (spaces (c.args.blanks - n)) front c.in_ok-push_str.ensures.bytes back
    ∙ ap (λ t. string_bytes c.args.out.now ++ t) (sym (c.blanks_before-before.ensures.text c.args.text.now))
