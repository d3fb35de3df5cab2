-- Every board is in some state.
use Rattle.std.proofs.Common.{◌≡◌, List, [], ◌∷◌, map, length, refl, ap, arith}
use Rattle.indicatif_term.specs.Lines.{bar_lines}
use Rattle.indicatif_term.specs.Target.{is_bottom}
use Rattle.indicatif_term.specs.declared.target.lines.Segment.{Segment}
use Rattle.indicatif_bar.proofs.StageLemmas.{some_staged}
use Rattle.indicatif_bar.specs.Commands.{BarRecord}
use Rattle.indicatif_board.specs.Boards.{BoardState}
use Rattle.indicatif_board.specs.Members.{Member, frame_of}
use Rattle.indicatif_board.specs.Multi.{IsIn}
use Rattle.indicatif_board.specs.declared.members.Member.{Member as MemberValue}
use Rattle.indicatif_board.specs.declared.multi.Board.{Board}
use Rattle.indicatif_board.proofs.MemberLemmas.{member_of}

module _ {K : Type 0} where
  -- members with the numbers and lines at their places
  abbrev members_from : List (MemberValue K) → List Segment → List (Member (BarRecord K))
  members_from [] segments = []
  members_from (m ∷ ms) [] = []
  members_from (m ∷ ms) (s ∷ segments) = record { number = s.bar; bar = m.bar; stored = (bar_lines s).lines; dropped = m.dropped } ∷ members_from ms segments

  members_again : (ms : List (MemberValue K)) (segments : List Segment) → length ms ≡ length segments → ms ≡ map member_of (members_from ms segments)
  members_again [] segments e = refl
  members_again (m ∷ ms) [] e = absurd (omega (arith, e))
  members_again (m ∷ ms) (s ∷ segments) e = ap (λ xs. m ∷ xs) (members_again ms segments (omega (arith, e)))

  frame_again : (ms : List (MemberValue K)) (segments : List Segment) → length ms ≡ length segments → map bar_lines segments ≡ frame_of (members_from ms segments)
  frame_again [] [] e = refl
  frame_again [] (s ∷ segments) e = absurd (omega (arith, e))
  frame_again (m ∷ ms) [] e = absurd (omega (arith, e))
  frame_again (m ∷ ms) (s ∷ segments) e = ap (λ xs. bar_lines s ∷ xs) (frame_again ms segments (omega (arith, e)))

pub some_board : {K T : Type 0} (b : Board K T) → (s : BoardState (BarRecord K)) × IsIn b.mark b s
unfolding IsIn
some_board b =
    let shown = b.shown in
    let even : length shown.members.items ≡ length shown.frame.items = omega (arith, shown.members.ok, shown.frame.ok, shown.even) in
    let staged = some_staged b.stage in (
      record {
        members = members_from shown.members.items shown.frame.items;
        made = shown.table.made;
        bottom = is_bottom shown.alignment;
        limiter = b.stage.limiter;
        lists = staged.0;
      },
      (
        refl,
        record {
          members_are = members_again shown.members.items shown.frame.items even;
          frame_is = frame_again shown.members.items shown.frame.items even;
          made_is = refl;
          bottom_is = refl;
        },
        staged.1,
      ),
    )
