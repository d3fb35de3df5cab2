use Rattle.std.proofs.Common.{◌≡◌, [], ◌++◌, string_bytes, if◌then◌else◌, sym, arith, ◌∙◌, ap, subst}
use Rattle.std.proofs.lemmas.Bool.{false≢true}
use Rattle.indicatif_bar.specs.Tabs.{expanded, has_tab}
use Rattle.indicatif_bar.proofs.TabLemmas.{shows_expanded, some_text, tab_is_text, on_err}
use Rattle.indicatif_bar.proofs.tabbed_text.TabbedText.refill.Goals.{then-has_tabs+in_ok-push_expanded, else-has_tabs}
use Rattle.indicatif_bar.proofs.tabbed_text.TabbedText.refill.Goals as goal

pub invariant_of-self-2 : goal.invariant_of-self-2
invariant_of-self-2 c =
    let has = c.has_tab-has_tabs.result in
    let new = string_bytes c.push_str.new.self in
    let cleared : string_bytes c.if-has_tabs.self-inside.text ≡ [] = elim c.if-has_tabs.branch [
      | then-has_tabs+in_ok-push_expanded w ↦ subst (λ s. string_bytes s.text ≡ []) (sym w.self-inside-is) c.clear.ensures.bytes
      | else-has_tabs w ↦ subst (λ s. string_bytes s.text ≡ []) (sym w.self-inside-is) c.clear.ensures.bytes
    ] in
    let text : new ≡ c.args.text.now = c.in_ok-push_str.ensures.bytes ∙ ap (λ t. t ++ c.args.text.now) cleared in
    let tabs : has ≡ has_tab new = c.has_tab-has_tabs.ensures ∙ ap has_tab (sym text) in
    elim c.if-has_tabs.branch [
      | then-has_tabs+in_ok-push_expanded w ↦ subst (λ s. (has ≡ has_tab new) × ((if has then string_bytes s.with_spaces else new) ≡ expanded s.tab new)) (sym w.self-inside-is)
          (shows_expanded has c.args.tab new (string_bytes w.push_expanded.new.out) tabs
          (λ _. w.in_ok-push_expanded.ensures ∙ rw w.clear-then-has_tabs.ensures.bytes (ap (expanded c.args.tab) (sym text))))
      | else-has_tabs w ↦ subst (λ s. (has ≡ has_tab new) × ((if has then string_bytes s.with_spaces else new) ≡ expanded s.tab new)) (sym w.self-inside-is)
          (shows_expanded has c.args.tab new (string_bytes c.self.inside.with_spaces) tabs (λ yes. absurd (false≢true (sym w.if-has_tabs.false ∙ yes))))
    ]

pub returns-in_err-push_str-clause-needed : goal.returns-in_err-push_str-clause-needed
returns-in_err-push_str-clause-needed c =
    on_err c.from_residual-in_err-push_str.result (some_text c.args.text.now (omega (arith, c.in_err-push_str.ensures.full, c.clear.ensures.len)))

pub returns-in_err-push_expanded-clause-needed : goal.returns-in_err-push_expanded-clause-needed
returns-in_err-push_expanded-clause-needed c =
    on_err c.from_residual.result (tab_is_text c.args.text.now (sym c.has_tab-has_tabs.ensures ∙ c.if-has_tabs.true))
