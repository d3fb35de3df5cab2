-- Members of a frame laid out one after another.
use Rattle.std.proofs.Common.{◌≡◌, ℕ, ◌+◌, ◌<◌, ◌≤◌, List, [], ◌∷◌, length, take, map, get_or, refl, sym, ◌∙◌, ap, arith, chars, if◌then◌else◌}
use Rattle.std.specs.Prelude.{string_bytes, nat_lt}
use Rattle.std.proofs.lemmas.Bool.{cond_both}
use Rattle.std.proofs.lemmas.Bool.Decides.{nat_tests}
use Rattle.indicatif_text.specs.Columns.{has_wide, rows_of}
use Rattle.indicatif_term.specs.Lists.{lines_of}
use Rattle.indicatif_term.specs.Lines.{bar_lines, line_text}
use Rattle.indicatif_term.specs.Standing.{IsLine, AreLines}
use Rattle.indicatif_term.specs.Inside.Plans.{IsSummed, frame_lines, passing_of}
use Rattle.indicatif_term.specs.Inside.Layouts.{FrontLaid, IsBeside, IsLaid, IsLaidOn, IsOnlyLine}
use Rattle.indicatif_term.specs.declared.engine.layout.Laid.{Laid}
use Rattle.indicatif_term.specs.declared.engine.remembered.StandingLine.{StandingLine}
use Rattle.indicatif_term.specs.declared.target.lines.LineType.{LineType}
use Rattle.indicatif_term.specs.declared.target.lines.Segment.{Segment}
use Rattle.indicatif_term.proofs.BesideLemmas.{all_at}
use Rattle.indicatif_term.proofs.RenewedLemmas.{same_texts, fits_more}
use Rattle.indicatif_term.proofs.LaidLemmas.{kept_on, laid_as, laid_still, member_none, member_more, member_whole}
use Rattle.indicatif_term.proofs.LayoutLemmas.{lines_step, narrow_step, passing_now, passing_same, still_summed}
use Rattle.indicatif_term.proofs.ShownRowLemmas.{frame_step}

-- one more member, behind those to be dropped
pub front_more : (w h pass i : ℕ) (on : List StandingLine) (frame : List Segment) (s : Segment) (l l' : Laid) → i < length frame → get_or frame i s ≡ s → pass ≤ i → FrontLaid w h pass on frame i l →
    IsLaidOn w h on (map line_text s.lines.items) (bar_lines s).lines (lines_of w (bar_lines s ∷ [])) l l' → FrontLaid w h pass on frame (i + 1) l'
front_more w h pass i on frame s l l' k e behind old one = record {
  summed = one.summed;
  narrow = narrow_step w frame i s k e old.narrow one.narrow;
  passing = passing_same w h pass i _ frame behind (one.passing_same ∙ old.passing);
  laid = laid_as w h on _ _ _ _ l' (sym (frame_step frame i s k e)) (lines_step w frame i s k e) (one.laid _ _ old.laid);
}

-- one more member, and the lines of those to be dropped
pub front_next : (w h pass i n : ℕ) (on : List StandingLine) (frame : List Segment) (s : Segment) (l l' : Laid) → i < length frame → get_or frame i s ≡ s → FrontLaid w h pass on frame i l →
    IsLaidOn w h on (map line_text s.lines.items) (bar_lines s).lines (lines_of w (bar_lines s ∷ [])) l l' → n ≡ (if nat_lt i pass then l'.plan.lines else l'.plan.passing) →
    FrontLaid w h pass on frame (i + 1) (record l' { plan = record l'.plan { passing = n } })
front_next w h pass i n on frame s l l' k e old one c =
    let p = l'.plan in
    let laid : IsLaid w h on (frame_lines (take (i + 1) frame)) (lines_of w (map bar_lines (take (i + 1) frame))) l' =
    laid_as w h on _ _ _ _ l' (sym (frame_step frame i s k e)) (lines_step w frame i s k e) (one.laid _ _ old.laid) in
    record {
      summed = still_summed h n p one.summed;
      narrow = narrow_step w frame i s k e old.narrow one.narrow;
      passing = c ∙ cond_both (nat_lt i pass) p.lines p.passing (λ m. m ≡ passing_of w h pass (i + 1) frame)
          (λ t. let k : i < pass = grind (arith, nat_tests, t) in passing_now w h pass i p.lines frame p _ laid.laid k refl)
          (λ t. let k : pass ≤ i = grind (arith, nat_tests, t) in passing_same w h pass i _ frame k (one.passing_same ∙ old.passing));
      laid = laid_still w h n p.passing_rows on _ _ l' laid;
    }

-- a line that stands as it is
pub line_stands : (w h bar : ℕ) (on : List StandingLine) (text : List ℕ) (x : StandingLine) (l l' : Laid) → IsSummed h l.plan → AreLines w on → IsBeside h on l bar x → string_bytes x.text ≡ text →
    l' ≡ record l { plan = record l.plan { rows = l.plan.rows + x.rows; lines = l.plan.lines + 1 }; at = l.at + 1 } →
    IsLaidOn w h on (text ∷ []) (chars text ∷ []) (record { bar = bar; rows = rows_of w (chars text) } ∷ []) l l'
line_stands w h bar on text x l l' s lines b t e =
    let line = all_at (IsLine w) on l.at x b.within b.line_is lines in
    kept_on w h bar x.rows on text x l l l' s b (line.rows_are ∙ ap (λ y. length (rows_of w (chars y))) t) refl
    (ap (λ y. has_wide w (chars y)) (sym t) ∙ line.narrow) refl refl refl refl e
    (λ fit. (fits_more w on 0 l.at (l.at + 1) l.changed.items (omega arith) fit, same_texts w on l.at x text l.changed.items b.within b.line_is fit t))

-- a member of one line that does
pub member_stands : (w h : ℕ) (on : List StandingLine) (s : Segment) (x : StandingLine) (l l' : Laid) → IsSummed h l.plan → AreLines w on → IsBeside h on l s.bar x → IsOnlyLine s x →
    l' ≡ record l { plan = record l.plan { rows = l.plan.rows + x.rows; lines = l.plan.lines + 1 }; at = l.at + 1 } →
    IsLaidOn w h on (map line_text s.lines.items) (bar_lines s).lines (lines_of w (bar_lines s ∷ [])) l l'
member_stands w h on s x l l' sum lines b only e =
    let size : length s.lines.items ≡ 1 = ap length only.lines_are in
    member_whole w h on s 1 l l' (omega (arith, size))
    (member_more w h on s 0 only.line l l l' (omega (arith, size)) (ap (λ xs. get_or xs 0 only.line) only.lines_are) (member_none w h on l sum)
    (line_stands w h s.bar on (line_text only.line) x l l' sum lines b only.text_is e))

pub one_item : (xs : List LineType) (x : LineType) → length xs ≡ 1 → get_or xs 0 x ≡ x → xs ≡ x ∷ []
one_item [] x n e = absurd (omega (arith, n))
one_item (y ∷ []) x n e = ap (λ z. z ∷ []) e
one_item (y ∷ z ∷ xs) x n e = absurd (omega (arith, n))
