-- What engines on terminals in memory show, step by step, and what fixed lines come to.
use Rattle.std.proofs.Common.{◌≡◌, ℕ, Bool, List, [], ◌∷◌, ◌++◌, map, take, replicate, refl, sym, ◌∙◌, ap, subst, inl, inr, false, true, Result, Ok, Err, arith, append_assoc, if◌then◌else◌, ◌+◌, add-one, zero, suc}
use Rattle.std.specs.Prelude.{codes, ◌⊎◌, IfOk, IfErr, IsTrue, IsFalse}
use Rattle.std.specs.Str.{chars}
use Rattle.std.proofs.Math.Utf8.{encode}
use Rattle.std.proofs.lemmas.Bool.{false≢true}
use Rattle.std.proofs.lemmas.List.{map-append}
use Rattle.std.specs.declared.io.ErrorKind.TheVariants.{OutOfMemory}
use Rattle.unicode_width.specs.Width.{char_width}
use Rattle.unicode_width.proofs.Computing.{unicode_width}
use Rattle.indicatif_text.specs.Columns.{rows_of, visible, has_wide, is_plain}
use Rattle.indicatif_text.specs.declared.refusal.Refusal.{Refusal}
use Rattle.indicatif_text.specs.declared.refusal.Refusal.TheVariants.{TooWide, NoColumns, Memory, Terminal as Failure}
use Rattle.indicatif_term.specs.declared.engine.Engine.{Engine}
use Rattle.indicatif_term.specs.Calls.{State, TermView, led_on}
use Rattle.indicatif_term.specs.Engines.{Answers, Counted, Fits, Paints, engine_term, failure_kind, is_failure, lists_after}
use Rattle.indicatif_term.specs.Lines.{RefusesLines, all_lines, are_plain, is_fault, logged_lines, some_wide, text_lines}
use Rattle.indicatif_term.specs.Limiters.{Limiter, allow, draw_limiter}
use Rattle.indicatif_term.specs.Lists.{BarLines, Lists, all_rows, cleared, drawn, fate, fitting, grouped, kept_of, lines_of, logged, opening_lists, forgotten_lists, shown_rows}
use Rattle.indicatif_term.specs.declared.engine.counts.Keep.TheVariants.{Behind}
use Rattle.indicatif_term.specs.Cells.{MemoryTerm, view_of}
use Rattle.indicatif_term.specs.Pictures.{picture_text, row_text}
use Rattle.indicatif_term.specs.Screen.{Screen, blank_screen}
use Rattle.indicatif_term.specs.Shows.{Rests, Shows}
use Rattle.indicatif_term.specs.Terminal.{Terminal, after, blank_terminal}

-- an engine on a terminal in memory of w columns and h rows shows these lists, from a new terminal on
pub record Stands (w h : ℕ) (l : Lists) (e : Engine MemoryTerm) : Type 0 where
  pub fits : Fits e l
  pub columns_are : (engine_term e).terminal.screen.columns ≡ w
  pub rows_are : (engine_term e).terminal.screen.height ≡ h
  pub rests : Rests w h (blank_screen h w) l (engine_term e).terminal

-- on a new one it does
pub stands_new : (w h : ℕ) (e : Engine MemoryTerm) → Fits e opening_lists → (engine_term e).terminal ≡ blank_terminal h w →
    Shows w h (blank_screen h w) opening_lists (blank_terminal h w) → Stands w h opening_lists e
stands_new w h e fits new shows = record {
  fits = fits;
  columns_are = ap (λ t. t.screen.columns) new;
  rows_are = ap (λ t. t.screen.height) new;
  rests = subst (Rests w h (blank_screen h w) opening_lists) (sym new) (record { shows = λ _. shows; leads = λ e. absurd (false≢true e) });
}

-- and after a drawing that was made
stands_painted : (w h : ℕ) (l : Lists) (f : ℕ → ℕ → Lists) (e e' : Engine MemoryTerm) → Stands w h l e →
    (engine_term e').terminal.screen.columns ≡ (engine_term e).terminal.screen.columns → (engine_term e').terminal.screen.height ≡ (engine_term e).terminal.screen.height →
    Fits e' (f (engine_term e).terminal.screen.columns (engine_term e).terminal.screen.height) →
    Paints (view_of (engine_term e)) (view_of (engine_term e')) false l (f (engine_term e).terminal.screen.columns (engine_term e).terminal.screen.height) → Stands w h (f w h) e'
stands_painted w h l f e e' s columns rows fits paints =
    let t = (engine_term e).terminal in
    let t' = (engine_term e').terminal in
    let told : State t' ≡ State (after t paints.bytes) = paints.told_is refl in
    let led : t' ≡ after t paints.bytes = cc in
    let own_columns : t'.screen.columns ≡ w = columns ∙ s.columns_are in
    let own_rows : t'.screen.height ≡ h = rows ∙ s.rows_are in
    let opening = blank_screen h w in
    let before = subst (λ x. Rests x t.screen.height opening l t) (sym s.columns_are) (subst (λ x. Rests w x opening l t) (sym s.rows_are) s.rests) in
    let g = f t.screen.columns t.screen.height in
    let same : g ≡ f w h = ap (λ x. f x t.screen.height) s.columns_are ∙ ap (f w) s.rows_are in
    let on_new = subst (Rests t'.screen.columns t'.screen.height opening g) (sym led) (paints.rests refl opening t before) in
    let of_columns = subst (λ x. Rests x t'.screen.height opening g t') own_columns on_new in
    let of_rows = subst (λ x. Rests w x opening g t') own_rows of_columns in
    record { fits = subst (Fits e') same fits; columns_are = own_columns; rows_are = own_rows; rests = subst (λ x. Rests w h opening x t') same of_rows }

-- the same by what it was answered
pub stands_led : (w h : ℕ) (l : Lists) (f : ℕ → ℕ → Lists) (e e' : Engine MemoryTerm) (result : Result Unit Refusal) → Stands w h l e →
    Counted (view_of (engine_term e)) (view_of (engine_term e')) result →
    Fits e' (lists_after result l (f (engine_term e).terminal.screen.columns (engine_term e).terminal.screen.height)) →
    Paints (view_of (engine_term e)) (view_of (engine_term e')) (is_failure result) l (lists_after result l (f (engine_term e).terminal.screen.columns (engine_term e).terminal.screen.height)) →
    IfOk result (λ _. Stands w h (f w h) e')
stands_led w h l f e e' (Ok u) s counted fits paints = stands_painted w h l f e e' s counted.columns_stay counted.rows_stay fits paints
stands_led w h l f e e' (Err r) s counted fits paints = tt

-- and where a bar's rows are kept
pub stands_kept : (w h bar : ℕ) (l : Lists) (e e' : Engine MemoryTerm) → Stands w h l e → engine_term e' ≡ engine_term e →
    Fits e' (kept_of (engine_term e).terminal.screen.columns bar l) → Rests w h (blank_screen h w) (kept_of w bar l) (engine_term e).terminal → Stands w h (kept_of w bar l) e'
stands_kept w h bar l e e' s same fits rests = record {
  fits = subst (λ x. Fits e' (kept_of x bar l)) s.columns_are fits;
  columns_are = ap (λ m. m.terminal.screen.columns) same ∙ s.columns_are;
  rows_are = ap (λ m. m.terminal.screen.height) same ∙ s.rows_are;
  rests = subst (λ m. Rests w h (blank_screen h w) (kept_of w bar l) m.terminal) (sym same) rests;
}

-- what is read of it, once what the lists' rows read is known
pub stands_read : (w h : ℕ) (l : Lists) (e : Engine MemoryTerm) (texts : List (List ℕ)) →
    ((w h : ℕ) (opening : Screen) (l : Lists) (t : Terminal) → Shows w h opening l t →
    (blank : ℕ) × (picture_text t.screen ≡ map row_text (take opening.row opening.rows ++ all_rows w l) ++ replicate blank [])) →
    l.failed ≡ false → map row_text (all_rows w l) ≡ texts → Stands w h l e → (blank : ℕ) × (picture_text (engine_term e).terminal.screen ≡ texts ++ replicate blank [])
stands_read w h l e texts law sound reads s =
    let read = law w h (blank_screen h w) l (engine_term e).terminal (s.rests.shows sound) in
    (read.0, read.1 ∙ ap (λ xs. xs ++ replicate read.0 []) reads)

-- what follows from a good answer
pub where_ok : {P Q : Type 0} (result : Result Unit Refusal) → (P → Q) → IfOk result (λ _. P) → IfOk result (λ _. Q)
where_ok (Ok u) f p = f p
where_ok (Err e) f p = tt

-- ---- refusals

-- lines that fit are refused for memory alone, on a terminal that fails only so
refused_so : (lines : List (List ℕ)) (e : Refusal) → IsFalse (some_wide 5 lines) → RefusesLines 5 lines e →
    OutOfMemory ≡ (if is_fault e then failure_kind {A = Unit {0}} (Err e) else OutOfMemory) → (e ≡ Memory) ⊎ (e ≡ Failure OutOfMemory)
refused_so lines NoColumns fit refuses kind = absurd (omega (arith, refuses))
refused_so lines TooWide fit refuses kind = absurd (false≢true (sym fit ∙ refuses.1))
refused_so lines (Failure k) fit refuses kind = let e : OutOfMemory ≡ k = kind in inr (ap Failure (sym e))
refused_so lines Memory fit refuses kind = inl refl
refused_so lines _ fit refuses kind = absurd refuses

pub refused_for_memory : (w : ℕ) (lines : List (List ℕ)) (result : Result Unit Refusal) (m m' : MemoryTerm) → w ≡ 5 → IsFalse (some_wide 5 lines) → Answers w lines result →
    Counted (view_of m) (view_of m') result → IfErr result (λ e. (e ≡ Memory) ⊎ (e ≡ Failure OutOfMemory))
refused_for_memory w lines (Ok u) m m' wide fit answer counted = tt
refused_for_memory w lines (Err e) m m' wide fit answer counted = refused_so lines e fit (subst (λ x. RefusesLines x lines e) wide answer) counted.kind_is

-- ---- lines in place

abbrev pub name : List (List ℕ)
name = text_lines (logged_lines (codes "a.txt"))

-- a name in colour
abbrev pub coloured : List ℕ
coloured = codes "b.txt" ++ 0x1B ∷ codes "[0m"

abbrev pub three_lines : List BarLines
three_lines = record { bar = 1; lines = codes "x" ∷ coloured ∷ codes "z" ∷ [] } ∷ []

abbrev pub two_lines : List BarLines
two_lines = record { bar = 1; lines = codes "y" ∷ coloured ∷ [] } ∷ []

pub three_plain : IsTrue (are_plain (name ++ all_lines three_lines))
unfolding char_width unicode_width visible is_plain chars encode
three_plain = refl

pub two_plain : IsTrue (are_plain (all_lines two_lines))
unfolding char_width unicode_width visible is_plain chars encode
two_plain = refl

pub three_fit : IsFalse (some_wide 5 (name ++ all_lines three_lines))
unfolding char_width unicode_width visible has_wide chars encode
three_fit = refl

pub two_fit : IsFalse (some_wide 5 (all_lines two_lines))
unfolding char_width unicode_width visible has_wide chars encode
two_fit = refl

pub two_read : map row_text (all_rows 5 (drawn 5 4 false 0 two_lines (logged 5 4 false name three_lines opening_lists))) ≡ codes "a.txt" ∷ codes "y" ∷ codes "b.txt" ∷ []
unfolding char_width unicode_width rows_of visible has_wide drawn logged cleared shown_rows lines_of fitting grouped chars encode
two_read = refl

-- no drawing leaves failed lists
pub drawn_sound : (w h pass : ℕ) (bottom : Bool) (frame : List BarLines) (l : Lists) → (drawn w h bottom pass frame l).failed ≡ false
unfolding drawn
drawn_sound w h pass bottom frame l = refl

pub logged_sound : (w h : ℕ) (bottom : Bool) (text : List (List ℕ)) (frame : List BarLines) (l : Lists) → (logged w h bottom text frame l).failed ≡ false
unfolding logged
logged_sound w h bottom text frame l = refl

-- ---- bars that are gone

abbrev pub first_bar : BarLines
first_bar = record { bar = 2; lines = codes "b" ∷ [] }

abbrev pub second_bar : BarLines
second_bar = record { bar = 1; lines = codes "x" ∷ codes "y" ∷ [] }

-- the lists after each step, of these frames
module _ (both first second : List BarLines) where
  abbrev pub lists_of_both : Lists
  lists_of_both = drawn 5 4 true 0 both opening_lists

  abbrev pub lists_of_first : Lists
  lists_of_first = drawn 5 4 true 0 first (kept_of 5 1 lists_of_both)

  abbrev pub lists_of_second : Lists
  lists_of_second = drawn 5 4 true 0 second (kept_of 5 2 lists_of_first)

  abbrev pub lists_at_end : Lists
  lists_at_end = logged 5 4 true name first lists_of_second

pub both_behind : fate 1 (lists_of_both (first_bar ∷ second_bar ∷ []) (first_bar ∷ []) (second_bar ∷ [])) ≡ Behind
unfolding char_width unicode_width rows_of visible has_wide drawn shown_rows lines_of fitting grouped chars encode fate
both_behind = refl

pub end_read : map row_text (all_rows 5 (lists_at_end (first_bar ∷ second_bar ∷ []) (first_bar ∷ []) (second_bar ∷ []))) ≡ [] ∷ codes "a.txt" ∷ [] ∷ [] ∷ codes "b" ∷ []
unfolding char_width unicode_width rows_of visible has_wide drawn logged cleared kept_of shown_rows lines_of fitting grouped chars encode
end_read = refl

pub both_plain : IsTrue (are_plain (all_lines (first_bar ∷ second_bar ∷ [])))
unfolding char_width unicode_width visible is_plain chars encode
both_plain = refl

pub first_plain : IsTrue (are_plain (all_lines (first_bar ∷ [])))
unfolding char_width unicode_width visible is_plain chars encode
first_plain = refl

pub second_plain : IsTrue (are_plain (all_lines (second_bar ∷ [])))
unfolding char_width unicode_width visible is_plain chars encode
second_plain = refl

pub first_below_plain : IsTrue (are_plain (name ++ all_lines (first_bar ∷ [])))
unfolding char_width unicode_width visible is_plain chars encode
first_below_plain = refl

-- ---- a name alone

pub name_plain : IsTrue (are_plain (name ++ all_lines []))
unfolding char_width unicode_width visible is_plain chars encode
name_plain = refl

pub name_read : map row_text (all_rows 10 (logged 10 4 false name [] forgotten_lists)) ≡ codes "a.txt" ∷ []
unfolding char_width unicode_width rows_of visible logged shown_rows lines_of fitting grouped chars encode
name_read = refl

-- a name logged behind a failure is read below the rows that stand
pub name_behind : (v v' : TermView) (result : Result Unit Refusal) → v.columns ≡ 10 → v.rows ≡ 4 → Counted v v' result →
    Paints v v' (is_failure result) forgotten_lists (lists_after result forgotten_lists (logged v.columns v.rows false name [] forgotten_lists)) →
    ((w h : ℕ) (opening : Screen) (l : Lists) (t : Terminal) → Shows w h opening l t →
    (blank : ℕ) × (picture_text t.screen ≡ map row_text (take opening.row opening.rows ++ all_rows w l) ++ replicate blank [])) →
    IfOk result (λ _. (opening : Screen) (t : Terminal) → v.told ≡ State t → Rests 10 4 opening forgotten_lists t →
    (next : Terminal) × (blank : ℕ) × (v'.told ≡ State next) × (picture_text next.screen ≡ map row_text (take opening.row opening.rows) ++ codes "a.txt" ∷ replicate blank []))
name_behind v v' (Err e) columns rows counted paints law = tt
name_behind v v' (Ok u) columns rows counted paints law = λ opening t told rests.
    let next = after t paints.bytes in
    let told_then : v'.told ≡ State next = paints.told_is (rw told refl) ∙ ap (λ x. led_on x paints.bytes) told in
    let l = logged v.columns v.rows false name [] forgotten_lists in
    let before : Rests v.columns v.rows opening forgotten_lists t = rw (columns, rows) rests in
    let read = law v'.columns v'.rows opening l next ((paints.rests refl opening t before).shows (logged_sound v.columns v.rows false name [] forgotten_lists)) in
    let above = take opening.row opening.rows in
    let wide : v'.columns ≡ 10 = counted.columns_stay ∙ columns in
    let reads : map row_text (all_rows v'.columns l) ≡ codes "a.txt" ∷ [] = rw (wide, columns, rows) name_read in
    let halves = map-append row_text above (all_rows v'.columns l) ∙ ap (λ xs. map row_text above ++ xs) reads in
    (next, read.0, told_then, read.1 ∙ ap (λ xs. xs ++ replicate read.0 []) halves ∙ append_assoc (map row_text above) (codes "a.txt" ∷ []) (replicate read.0 []))

-- ---- a limiter

-- a limiter of 20 draws a second that was asked so often at the moment of its making
pub asked : ℕ → Limiter
asked zero = draw_limiter 20 0
asked (suc n) = (allow (asked n) 0).1

pub asked_first : asked 0 ≡ draw_limiter 20 0
unfolding asked
asked_first = refl

pub asked_once_more : (n : ℕ) → (allow (asked n) 0).1 ≡ asked (n + 1)
unfolding asked
asked_once_more n = ap asked (sym (add-one n))

pub asked_too_often : (allow (asked 20) 0).0 ≡ false
unfolding asked
asked_too_often = refl
