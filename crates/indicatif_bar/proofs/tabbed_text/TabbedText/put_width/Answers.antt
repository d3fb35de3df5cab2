use Rattle.std.proofs.Common.{◌≡◌, string_bytes, sym, ◌∙◌, ap, subst, if◌then◌else◌}
use Rattle.std.proofs.lemmas.Bool.{false≢true}
use Rattle.indicatif_bar.specs.Tabs.{expanded, has_tab, TabbedText}
use Rattle.indicatif_bar.proofs.TabLemmas.{shows_expanded}
use Rattle.indicatif_bar.proofs.tabbed_text.TabbedText.put_width.Goals.{then-self, else-self}
use Rattle.indicatif_bar.proofs.tabbed_text.TabbedText.put_width.Goals as goal

pub invariant_of-self : goal.invariant_of-self
invariant_of-self c =
    let text : string_bytes c.self.inside.text ≡ c.args.self.now.text = ap (λ (t : TabbedText). t.text) c.self.view_is in
    elim c.if-self.branch [
      | then-self w ↦ subst (λ s. (s.has_tabs ≡ has_tab (string_bytes s.text))
          × ((if s.has_tabs then string_bytes s.with_spaces else string_bytes s.text) ≡ expanded c.args.tab (string_bytes s.text))) (sym w.self-inside-is)
          (shows_expanded c.self.inside.has_tabs c.args.tab (string_bytes c.self.inside.text) (string_bytes c.args.with_spaces) c.self.invariant.0
          (λ has. c.requires (ap has_tab (sym text) ∙ sym c.self.invariant.0 ∙ has) ∙ ap (expanded c.args.tab) (sym text)))
      | else-self w ↦ subst (λ s. (s.has_tabs ≡ has_tab (string_bytes s.text))
          × ((if s.has_tabs then string_bytes s.with_spaces else string_bytes s.text) ≡ expanded c.args.tab (string_bytes s.text))) (sym w.self-inside-is)
          (shows_expanded c.self.inside.has_tabs c.args.tab (string_bytes c.self.inside.text) (string_bytes c.self.inside.with_spaces) c.self.invariant.0
          (λ has. absurd (false≢true (sym w.if-self.false ∙ has))))
    ]
