use Rattle.std.proofs.Common.{refl, sym, ◌∙◌, ap, option_map}
use Rattle.indicatif_term.specs.Cells.{view_of}
use Rattle.indicatif_term.specs.Pictures.{picture_text}
use Rattle.indicatif_board.specs.Multi.{terminal_of}
use Rattle.uses.proofs.PictureLemmas.{state_told}
use Rattle.uses.proofs.histories.picture_kept.Goals as goal

pub returns : goal.returns
returns g c = λ v opening starts run unbroken plain.
    let read = c.what_a_history_says.ensures.read v c.args.history.now _ run unbroken plain opening starts in
    let left = ap (option_map (λ t. t.now)) (sym c.in_ok-left.ensures.ok_part) ∙ c.term.ensures ∙ ap terminal_of c.board.ensures in
    let t = state_told c.in_ok-left.left.now read.0 read.2.0 (ap (option_map view_of) left ∙ read.1) read.2.1 in
    (read.2.2, c.in_ok-picture.ensures.picture ∙ ap (λ u. picture_text u.screen) t ∙ read.2.3)
