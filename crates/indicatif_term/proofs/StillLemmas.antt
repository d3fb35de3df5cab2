-- A frame that stands as it was laid out: no line changes, so that nothing is written.
use Rattle.std.proofs.Common.{◌≡◌, ℕ, ◌<◌, ◌≤◌, Bool, true, false, List, [], ◌∷◌, ◌++◌, length, take, drop, map, min, refl, sym, ◌∙◌, ap, subst, arith, append-nil, length-append, if◌then◌else◌}
use Rattle.std.specs.Prelude.{string_bytes}
use Rattle.std.specs.List.{AllByRecursion}
use Rattle.std.proofs.lemmas.List.{take_all, take-append-drop, length-map, length-take-le}
use Rattle.indicatif_term.specs.Counts.{line_count, line_counts}
use Rattle.indicatif_term.specs.Remembered.{live_lines}
use Rattle.indicatif_term.specs.Standing.{placed_of, placed, texts, AreLines}
use Rattle.indicatif_term.specs.Inside.MoveBytes.{back_bytes}
use Rattle.indicatif_term.specs.Inside.Changing.{all_stay, free_behind, frame_bytes, ending}
use Rattle.indicatif_term.specs.Inside.Fills.{last_of}
use Rattle.indicatif_term.specs.Inside.Layouts.{AreWhole, ArePut, laid_texts, laid_lines}
use Rattle.indicatif_term.specs.Inside.Owned.{kept_below}
use Rattle.indicatif_term.specs.Inside.Remembered.{IsNext, Stands}
use Rattle.indicatif_term.specs.Inside.Renewed.{AreFitting, renewed}
use Rattle.indicatif_term.specs.Inside.Writings.{writing_bytes}
use Rattle.indicatif_term.specs.declared.engine.counts.Counts.{Counts}
use Rattle.indicatif_term.specs.declared.engine.counts.Fresh.{Fresh}
use Rattle.indicatif_term.specs.declared.engine.layout.Laid.{Laid}
use Rattle.indicatif_term.specs.declared.engine.comparing.Step.TheVariants.{Leave}
use Rattle.indicatif_term.specs.declared.engine.remembered.Remembered.{Remembered}
use Rattle.indicatif_term.specs.declared.engine.remembered.Span.{Span}
use Rattle.indicatif_term.specs.declared.engine.remembered.StandingLine.{StandingLine}
use Rattle.indicatif_term.specs.declared.engine.writing.Manner.TheVariants.{Among}
use Rattle.indicatif_term.specs.declared.engine.writing.Writing.{Writing}
use Rattle.indicatif_term.proofs.AmongLemmas.{change_bytes}
use Rattle.indicatif_term.proofs.BesideLemmas.{noted_line}
use Rattle.indicatif_term.proofs.LaidLemmas.{are_put}
use Rattle.indicatif_term.proofs.RememberedLemmas.{live_right}
use Rattle.indicatif_term.proofs.RenewedLemmas.{IsLeft, in_place, all_over}
use Rattle.indicatif_term.proofs.SkippingLemmas.{split_at}
use Rattle.indicatif_term.proofs.WritingLemmas.{among_written}

-- these lines, all of which stay
abbrev pub left : List StandingLine → List StandingLine
left ls = map (λ (l : StandingLine). record l { step = Leave }) ls

pub left_texts : (ls : List StandingLine) → texts (left ls) ≡ texts ls
left_texts [] = refl
left_texts (l ∷ ls) = ap (λ ts. string_bytes l.text ∷ ts) (left_texts ls)

pub left_counts : (ls : List StandingLine) → line_counts (left ls) ≡ line_counts ls
left_counts [] = refl
left_counts (l ∷ ls) = ap (λ cs. line_count l ∷ cs) (left_counts ls)

left_lines : (w : ℕ) (ls : List StandingLine) → AreLines w ls → AreLines w (left ls)
left_lines w [] a = tt
left_lines w (l ∷ ls) a = (noted_line w l Leave a.0, left_lines w ls a.1)

all_left : (ls : List StandingLine) → AllByRecursion IsLeft (left ls)
all_left [] = tt
all_left (l ∷ ls) = (refl, all_left ls)

left_stay : (ls : List StandingLine) → all_stay (placed (left ls)) ≡ true
left_stay [] = refl
left_stay (l ∷ ls) = left_stay ls

-- they are those of the frame
left_put : (w : ℕ) (on : List StandingLine) (l : Laid) → l.at ≡ length on → l.changed.items ≡ [] → l.more.items ≡ [] → AreLines w on → ArePut w on l (left on)
left_put w on l at none no_more all =
    let whole : take l.at on ≡ on = take_all l.at on (omega (arith, at)) in
    let nothing : left on ++ l.more.items ≡ left on = ap (λ xs. left on ++ xs) no_more ∙ append-nil (left on) in
    let t : texts (left on) ≡ renewed (texts on) l.changed.items = left_texts on ∙ sym (ap (renewed (texts on)) none) in
    subst (ArePut w on l) nothing (are_put w on l (left on) (subst (AreFitting w on l.at) (sym none) tt) (subst (AreLines w) (sym whole) all)
    (subst (λ xs. texts (left on) ≡ renewed (texts xs) l.changed.items) (sym whole) t)
    (left_counts on ∙ ap line_counts (sym whole)) (in_place w (take l.at on) (left on) (subst (AreLines w) (sym whole) all) (left_lines w on all) (left_texts on ∙ ap texts (sym whole)))
    (all_over w (take l.at on) (left on) (left_texts on ∙ ap texts (sym whole)) (all_left on)) (subst (AreLines w) (sym no_more) tt) (subst AreWhole (sym no_more) tt))

-- what is remembered is what was
still_next : (v : ℕ) (above : Span) (r : Remembered) (l : Laid) → above.from ≡ 0 → above.to ≡ r.kept → r.width ≡ v → l.plan.passing ≡ 0 →
    IsNext v (kept_below l.plan l.blanks) (drop above.from (take above.to r.lines)) (live_lines r) r
still_next v above r l from to width none =
    let all : drop above.from (take above.to r.lines) ≡ take r.kept r.lines = ap (λ n. drop n (take above.to r.lines)) from ∙ ap (λ n. take n r.lines) to in
    let zeros : kept_below l.plan l.blanks ≡ 0 = rw none refl in
    let within : r.kept ≤ length r.lines = r.within in
    record {
      lines_are = sym (take-append-drop r.kept r.lines) ∙ ap (λ xs. xs ++ live_lines r) (sym all);
      width_is = width;
      kept_is = omega (arith, ap length all, length-take-le r.kept r.lines within, zeros);
    }

-- a frame stands, and all lines above it are remembered
pub record Still (v : ℕ) (above : Span) (r : Remembered) (l : Laid) : Type 0 where
  pub put : ArePut v (live_lines r) l (left (live_lines r))
  pub next : IsNext v (kept_below l.plan l.blanks) (drop above.from (take above.to r.lines)) (live_lines r) r
  pub texts_are : texts (live_lines r) ≡ laid_texts (live_lines r) l
  pub counts_are : line_counts (live_lines r) ≡ line_counts (laid_lines (live_lines r) l)
  pub right : AreLines v (live_lines r)

pub is_still : (counts : Counts) (failed : Bool) (rows v : ℕ) (next : Counts) (above : Span) (r : Remembered) (l : Laid) → 0 < v → above.to ≡ r.kept → r.width ≡ v →
    Stands counts failed r.width rows next above l (live_lines r) → Still v above r l
is_still counts failed rows v next above r l some to width st =
    let live = live_lines r in
    let right : AreLines v live = subst (λ n. AreLines n live) width (live_right r (omega (arith, width, some))) in
    let put = left_put v live l st.all st.none_changed st.none_more right in
    record {
      put = put;
      next = still_next v above r l st.all_above to width st.none_passes;
      texts_are = sym (left_texts live) ∙ put.texts_are;
      counts_are = sym (left_counts live) ∙ put.counts_are;
      right = right;
    }

no_more : {A : Type 0} (xs : List A) → length xs ≡ 0 → xs ≡ []
no_more [] e = refl
no_more (x ∷ xs) e = absurd (omega (arith, e))

-- and no byte is written
pub left_bytes : (failed below ends : Bool) (f : Fresh) (v : ℕ) (on : List StandingLine) → failed ≡ false → below ≡ false → ends ≡ false → f.rows ≡ 0 → 0 < length on →
    writing_bytes (record {
      anew = failed;
      fresh = f;
      below = below;
      taken = 0;
      manner = Among (length (left on));
      width = v;
      ends_below = ends;
      fill = free_behind v (last_of (placed (drop (length (left on)) (left on))));
    }) [] (left on) ≡ []
left_bytes failed below ends f v on sound row stays none some =
    let ls = left on in
    let size : length ls ≡ length on = length-map on (λ (l : StandingLine). record l { step = Leave }) in
    let parts = split_at (placed ls) (length ls) (omega (arith, some, size)) (omega (arith, length-map ls placed_of)) in
    let front = parts.0 in
    let last = parts.1 in
    let lower : parts.2 ≡ [] = no_more parts.2 (omega (arith, ap length parts.3, length-append front (last ∷ parts.2), parts.4, length-map ls placed_of)) in
    let all : all_stay (front ++ last ∷ []) ≡ true = ap (λ more. all_stay (front ++ last ∷ more)) (sym lower) ∙ ap all_stay (sym parts.3) ∙ left_stay on in
    let set : Bool → Bool → Bool → Writing = λ a b e.
    record { anew = a; fresh = f; below = b; taken = 0; manner = Among (length ls); width = v; ends_below = e; fill = free_behind v (last_of (placed (drop (length ls) ls))) } in
    ap (λ a. writing_bytes (set a below ends) [] ls) sound ∙ ap (λ b. writing_bytes (set false b ends) [] ls) row ∙ ap (λ e. writing_bytes (set false false e) [] ls) stays
    ∙ among_written false f 0 (length ls) v ls front last parts.2 none parts.3 parts.4 ∙ ap (change_bytes v 0 front last) lower
    ∙ ap (λ (b : Bool). (if b then [] else (back_bytes false 0 ++ frame_bytes (min 0 1) (front ++ ending v last ∷ []))) ++ []) all
