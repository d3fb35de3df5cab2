-- What the anchor of a place says of an insertion there.
use Rattle.std.proofs.Common.{◌≡◌, ℕ, None, Result, Ok, Err, refl}
use Rattle.std.specs.Prelude.{◌≢◌, IfOk, IfErr, MatchResult}
use Rattle.indicatif_text.specs.declared.refusal.Refusal.{Refusal}
use Rattle.indicatif_text.specs.declared.refusal.Refusal.TheVariants.{ForeignBar, NotMember}
use Rattle.indicatif_bar.specs.Commands.{BarRecord}
use Rattle.indicatif_board.specs.Boards.{Id, Location, End, Index, FromBack, Before, After, Entrant, Insert}
use Rattle.indicatif_board.specs.Calls.{IsForeign, NamesForeign}
use Rattle.indicatif_board.specs.Insertions.{HasAnchor, NamesAbsent}
use Rattle.indicatif_board.specs.Inside.Insertions.{LacksAnchor, LacksBar}
use Rattle.indicatif_board.specs.Inside.Standing.{StandsAt}
use Rattle.indicatif_board.specs.Multi.{EntersAbsent, mark_of, record_at}
use Rattle.indicatif_board.proofs.BarRecordLemmas.{has_record, same_error}
use Rattle.indicatif_board.specs.declared.multi.Board.{Board}

module _ {K T : Type 0} (b : Board K T) (entrant : Entrant (BarRecord K)) where
  -- beside a bar of this board the candidate alone can be foreign or absent
  pub foreign_candidate : (at : Location) → HasAnchor b at → NamesForeign {K = K} (mark_of b) (Insert at entrant) → IsForeign {K = K} (mark_of b) entrant
  foreign_candidate End has named = named
  foreign_candidate (Index i) has named = named
  foreign_candidate (FromBack i) has named = named
  foreign_candidate (Before anchor) has named = absurd (named has.0)
  foreign_candidate (After anchor) has named = absurd (named has.0)

  pub absent_candidate : (at : Location) → HasAnchor b at → NamesAbsent b at entrant → EntersAbsent b entrant
  absent_candidate End has named = named
  absent_candidate (Index i) has named = named
  absent_candidate (FromBack i) has named = named
  absent_candidate (Before anchor) has named = absurd (has.1 named.1)
  absent_candidate (After anchor) has named = absurd (has.1 named.1)

  module _ (e : Refusal) where
    -- a refusal of the anchor is the one that is said
    pub foreign_anchor : (at : Location) → LacksAnchor b at e → NamesForeign {K = K} (mark_of b) (Insert at entrant) → e ≡ ForeignBar
    foreign_anchor End lacks named = absurd lacks
    foreign_anchor (Index i) lacks named = absurd lacks
    foreign_anchor (FromBack i) lacks named = absurd lacks
    foreign_anchor (Before anchor) lacks named = lacks.0 named
    foreign_anchor (After anchor) lacks named = lacks.0 named

    pub absent_anchor : (at : Location) → LacksAnchor b at e → NamesAbsent b at entrant → e ≡ NotMember
    absent_anchor End lacks named = absurd lacks
    absent_anchor (Index i) lacks named = absurd lacks
    absent_anchor (FromBack i) lacks named = absurd lacks
    absent_anchor (Before anchor) lacks named = (lacks.1 named.0).0
    absent_anchor (After anchor) lacks named = (lacks.1 named.0).0

-- a bar was looked for
pub anchored : {K T : Type 0} (b : Board K T) (id : Id) (r : Result ℕ Refusal) → IfOk r (λ at. StandsAt id.number at b.shown) → IfOk r (λ _. id.mark ≡ mark_of b) →
    (id.mark ≢ mark_of b → r ≡ Err ForeignBar) → (id.mark ≡ mark_of b → IfErr r (λ e. (e ≡ NotMember) × (record_at id.number b ≡ None))) →
    MatchResult r (λ _. (id.mark ≡ mark_of b) × (record_at id.number b ≢ None)) (λ e. LacksBar b id e)
anchored b id (Ok at) own mine foreign absent = (mine, has_record b.shown id.number at own)
anchored b id (Err e) own mine foreign absent = (λ other. same_error (Err e) refl (foreign other), absent)

-- a board has its anchor or lacks it
pub has_or_lacks : {K T : Type 0} (b : Board K T) (e : Refusal) (at : Location) → LacksAnchor b at e → HasAnchor b at → ⊥
has_or_lacks b e End lacks has = lacks
has_or_lacks b e (Index i) lacks has = lacks
has_or_lacks b e (FromBack i) lacks has = lacks
has_or_lacks b e (Before anchor) lacks has = has.1 (lacks.1 has.0).1
has_or_lacks b e (After anchor) lacks has = has.1 (lacks.1 has.0).1
