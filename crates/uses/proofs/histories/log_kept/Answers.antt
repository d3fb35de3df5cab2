use Rattle.std.proofs.Common.{◌≡◌, refl, sym, ◌∙◌, ap, inl, inr, ◌++◌, ◌∷◌, []}
use Rattle.std.specs.Prelude.{string_bytes}
use Rattle.indicatif_board.specs.Boards.{Log}
use Rattle.indicatif_board.specs.Calls.{answer_of}
use Rattle.indicatif_board.specs.Recorded.{CallStep}
use Rattle.uses.proofs.histories.log_kept.Goals as goal

pub returns : goal.returns
returns g c = λ yes. elim c.apply-answer.ensures.grows [
  | inl adds ↦
      let run = c.replays.ensures in
      let text = string_bytes c.args.text in
      let steps = adds.steps ∙ ap (λ answer. c.args.history.now.steps ++ record { call = Log text; now = c.args.now; answer = answer_of answer } ∷ []) yes in
      let stands = c.what_a_history_says.ensures.logged _ c.apply-answer.new.self _ run.2 c.args.history.now.steps [] (Log text) c.args.now text refl steps refl in
      (run, stands.0, stands.1, stands.2)
  | inr turned ↦ let z = sym turned.1 ∙ yes in cc
]
