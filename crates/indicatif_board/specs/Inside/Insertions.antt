-- Why the anchor of a place is refused.
use Rattle.std.specs.Prelude.{◌≡◌, ◌≢◌, None}
use Rattle.indicatif_text.specs.declared.refusal.Refusal.{Refusal}
use Rattle.indicatif_text.specs.declared.refusal.Refusal.TheVariants.{ForeignBar, NotMember}
use Rattle.indicatif_board.specs.Boards.{Id, Location, Before, After}
use Rattle.indicatif_board.specs.Multi.{mark_of, record_at}
use Rattle.indicatif_board.specs.declared.multi.Board.{Board}

module _ {K T : Type 0} where
  -- why a call may not name a bar: it is another board's, or this board has no such bar
  abbrev pub LacksBar : Board K T → Id → Refusal → Type 0
  LacksBar b id e = (id.mark ≢ mark_of b → e ≡ ForeignBar) × (id.mark ≡ mark_of b → (e ≡ NotMember) × (record_at id.number b ≡ None))

  -- why a place's anchor isn't one of this board's bars, if it isn't
  abbrev pub LacksAnchor : Board K T → Location → Refusal → Type 0
  LacksAnchor b (Before anchor) e = LacksBar b anchor e
  LacksAnchor b (After anchor) e = LacksBar b anchor e
  LacksAnchor b _ e = ⊥
