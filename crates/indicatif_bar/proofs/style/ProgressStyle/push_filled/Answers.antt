use Rattle.std.proofs.Common.{◌≡◌, ◌++◌, ◌∙◌, sym, ap, string_bytes}
use Rattle.indicatif_bar.specs.Styles.{wide_text, with_fillers_as}
use Rattle.indicatif_bar.specs.Inside.Steps.{wide_found}
use Rattle.indicatif_bar.proofs.FillingLemmas.{one_filler, last_part, regrouped}
use Rattle.indicatif_bar.proofs.style.ProgressStyle.push_filled.Goals as goal

pub fillers-preserved : goal.fillers-preserved
fillers-preserved g c =
    let text = c.args.text.now in
    let rest = c.fillers.rest.now in
    let part = c.in-Some.part.now in
    let behind = c.in-Some.behind.now in
    let old = string_bytes c.fillers.out in
    record {
      texts = λ columns at last.
          let wide = wide_text c.args.self.now c.args.state.now columns text (wide_found c.args.wide) in
          let pushed : string_bytes c.push_wide.new.out ≡ (old ++ part) ++ wide = c.in_ok-push_wide.ensures columns text at last
          ∙ ap (λ x. x ++ wide) c.in_ok-push_str.ensures.bytes in
          ap (λ x. x ++ with_fillers_as wide behind) pushed ∙ regrouped old part wide (with_fillers_as wide behind)
          ∙ ap (λ x. old ++ x) (sym (one_filler wide rest part behind c.in-Some.ensures.parts)) ∙ c.fillers.invariant.texts columns at last;
      utf8 = c.in-Some.ensures.utf8;
    }

pub returns : goal.returns
returns g c columns at last =
    let wide = wide_text c.args.self.now c.args.state.now columns c.args.text.now (wide_found c.args.wide) in
    c.in_ok-push_str-2.ensures.bytes ∙ ap (λ x. string_bytes c.fillers.out ++ x) (sym (last_part wide c.fillers.rest.now c.in_default.ensures.parts))
    ∙ c.fillers.invariant.texts columns at last
