use Rattle.std.proofs.Common.{◌≡◌, string_bytes, sym, ◌∙◌, ap}
use Rattle.std.proofs.lemmas.Bool.{false≢true}
use Rattle.indicatif_bar.specs.Tabs.{expanded, has_tab, TabbedText}
use Rattle.indicatif_bar.proofs.tabbed_text.TabbedText.at_width.Goals.{then-self+in_ok-push_expanded, else-self}
use Rattle.indicatif_bar.proofs.tabbed_text.TabbedText.at_width.Goals as goal

pub returns-clause-text : goal.returns-clause-text
returns-clause-text c =
    let text : string_bytes c.self.inside.text ≡ c.args.self.now.text = ap (λ (t : TabbedText). t.text) c.self.view_is in
    λ has. elim c.if-self.branch [
      | then-self+in_ok-push_expanded w ↦ ap string_bytes w.with_spaces-is ∙ w.in_ok-push_expanded.ensures
          ∙ rw c.new-with_spaces.ensures.bytes (ap (expanded c.args.tab) (w.as_str.ensures.value ∙ text))
      | else-self w ↦ absurd (false≢true (sym w.if-self.false ∙ c.self.invariant.0 ∙ ap has_tab text ∙ has))
    ]
