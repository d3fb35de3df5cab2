-- Edits of a line's row as a change of a drawing.
use Rattle.std.proofs.Common.{◌≡◌, ℕ, ◌+◌, ◌<◌, ◌≤◌, Bool, true, false, List, [], ◌∷◌, ◌∙◌, sym, ap, subst, length, chars, arith}
use Rattle.std.specs.Prelude.{IsTrue}
use Rattle.std.specs.List.{AllByRecursion}
use Rattle.indicatif_text.specs.Columns.{Cell, rows_of}
use Rattle.indicatif_term.specs.Inside.Inks.{NONE, Inked, characters, padded}
use Rattle.indicatif_term.specs.Inside.RowEdits.{Edit, Turns, IsNarrowChar, edit_columns, plan}
use Rattle.indicatif_term.specs.Inside.Changing.{Becomes, Ends, Within}
use Rattle.indicatif_term.specs.Inside.Parting.{Parted, HasPart, IsTurned, tail, cells_at, part_edits}
use Rattle.indicatif_term.specs.declared.engine.comparing.Stretch.{Stretch}
use Rattle.indicatif_term.specs.declared.engine.comparing.Step.TheVariants as steps
use Rattle.indicatif_term.proofs.InkLemmas.{IsInked, read_characters, read_length, read_colours, padded_length}
use Rattle.indicatif_term.proofs.EditPlanLemmas.{CanBeWritten, lines_turn, plan_columns, plan_gap}
use Rattle.indicatif_term.specs.Shows.{looks_of}
use Rattle.indicatif_term.proofs.EditLineLemmas.{edits_make_lines}

-- a line that stands in one row becomes another by edits of it: whatever rows look like the one's
pub lines_become : (w k : ℕ) (es : List Edit) (old new : List ℕ) (stood : List (List Cell)) → Turns w k es (chars old) (chars new) → stood ≡ looks_of (rows_of w (chars old)) →
    Becomes w (Within k es) stood new × (length (rows_of w (chars new)) ≡ 1)
lines_become w k es old new stood t e =
    let m = edits_make_lines w k es (chars old) (chars new) t in (
      record { front = []; before = m.0; afterwards = m.1; stood_is = e ∙ ap looks_of m.2; line_is = m.3; renews = m.4 },
      ap length m.3,
    )

both_written : (cells : List Inked) → AllByRecursion IsNarrowChar (characters cells) → AllByRecursion IsInked cells → AllByRecursion CanBeWritten cells
both_written [] a b = tt
both_written (x ∷ cells) a b = ((a.0, b.0), both_written cells a.1 b.1)

pub parted_becomes : (w : ℕ) (waits : Bool) (old new : List ℕ) (p : Stretch) → Parted w waits old new p → (stood : List (List Cell)) → stood ≡ looks_of (rows_of w (chars old)) →
    Becomes w (Within p.gap (part_edits p old new)) stood new × (length (rows_of w (chars new)) ≡ 1)
parted_becomes w waits old new p d stood e =
    let os = cells_at p.from old in
    let ns = cells_at p.from new in
    let olds : characters os ≡ d.tails.olds = read_characters NONE (tail p.from old) ∙ sym d.olds_are in
    let news : characters ns ≡ d.tails.news = read_characters NONE (tail p.from new) ∙ sym d.news_are in
    let each : AllByRecursion CanBeWritten ns = both_written ns (subst (AllByRecursion IsNarrowChar) (sym news) d.narrow) (read_colours (tail p.from new)) in
    lines_become w p.gap (part_edits p old new) old new stood (lines_turn w p.gap p.left p.waits (chars old) (chars new) d.tails os ns olds news each) e

pub parted_part : (w : ℕ) (waits : Bool) (old new : List ℕ) (p : Stretch) → w ≤ 65535 → Parted w waits old new p → HasPart p old new
parted_part w waits old new p small d = record {
  small = omega (arith, d.tails.room);
  own = d.own;
  other = d.other;
  olds = omega (arith, d.tails.few_olds, read_length NONE (tail p.from old), ap length d.olds_are);
  news = omega (arith, d.tails.few_news, read_length NONE (tail p.from new), ap length d.news_are);
}

ends_with : (w gap left : ℕ) (waits : Bool) (olds news : List Inked) (line : List ℕ) → IsTrue waits → length olds ≤ left → length news ≤ left → gap + left ≡ w → 0 < left →
    Ends w (Within gap (plan waits NONE (padded left olds) (padded left news))) line
ends_with w gap left true olds news line t few few' whole some =
    let os = padded left olds in
    let ns = padded left news in
    let a : length os ≡ left = padded_length left olds few in
    let b : length ns ≡ left = padded_length left news few' in
    let many : edit_columns (plan true NONE os ns) ≡ left = plan_columns true NONE os ns (a ∙ sym b) ∙ b in
    (ap (λ n. gap + n) many ∙ whole, plan_gap gap NONE os ns (a ∙ sym b) (omega (arith, b, some)))
ends_with w gap left false olds news line t few few' whole some = absurd (cc)

pub parted_ends : (w : ℕ) (waits : Bool) (old new line : List ℕ) (p : Stretch) → w ≤ 65535 → Parted w waits old new p → IsTrue p.waits →
    Ends w (Within p.gap (part_edits p old new)) line
parted_ends w waits old new line p small d t =
    let end = d.to_end (sym d.waits_is ∙ t) in
    let part = parted_part w waits old new p small d in
    ends_with w p.gap p.left p.waits (cells_at p.from old) (cells_at p.from new) line t part.olds part.news end.0 end.1

pub parted_turned : (w : ℕ) (waits : Bool) (old new : List ℕ) (p : Stretch) → w ≤ 65535 → Parted w waits old new p → IsTurned w (steps.Within p) old new
parted_turned w waits old new p small d = record {
  becomes = λ stood e. (parted_becomes w waits old new p d stood e).0;
  ready = parted_part w waits old new p small d;
  waiting = λ t. parted_ends w waits old new new p small d t;
  colours = d.colours;
}
