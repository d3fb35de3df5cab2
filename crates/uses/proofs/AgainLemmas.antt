-- Names that are logged where a terminal has failed, and once more where it fails again, stand below what stood.
use Rattle.std.proofs.Common.{◌≡◌, ℕ, ◌+◌, ◌≤◌, List, [], ◌∷◌, ◌++◌, length, take, drop, refl, sym, ◌∙◌, ap, subst, arith, true, false, Result, Ok, Err, take-take, take-append-drop}
use Rattle.std.specs.Prelude.{codes, IfOk, IsFalse, IsTrue}
use Rattle.std.specs.Str.{chars}
use Rattle.std.specs.declared.io.ErrorKind.{ErrorKind}
use Rattle.std.proofs.Math.Utf8.{encode}
use Rattle.std.proofs.lemmas.List.{length-take-le, take-append-le, take_all}
use Rattle.unicode_width.specs.Width.{char_width}
use Rattle.unicode_width.proofs.Computing.{unicode_width}
use Rattle.indicatif_text.specs.Columns.{Cell, is_plain, rows_of, visible}
use Rattle.indicatif_text.specs.declared.refusal.Refusal.{Refusal}
use Rattle.indicatif_text.specs.declared.refusal.Refusal.TheVariants.{Terminal as Failure}
use Rattle.indicatif_term.specs.declared.engine.Engine.{Engine}
use Rattle.indicatif_term.specs.Calls.{State, TermView, led_on}
use Rattle.indicatif_term.specs.Engines.{Counted, Fits, Paints, is_failure, lists_after}
use Rattle.indicatif_term.specs.Lines.{all_lines, are_plain, logged_lines, text_lines}
use Rattle.indicatif_term.specs.Lists.{Lists, all_rows, fitting, forgotten_lists, grouped, lines_of, lists_height, logged, shown_rows}
use Rattle.indicatif_term.specs.Screen.{Screen}
use Rattle.indicatif_term.specs.Shows.{IsOpening, Placed, RestsOver, RowsStay, emptied_below, looks_of, on_next_row}
use Rattle.indicatif_term.specs.Terminal.{Terminal, after}
use Rattle.uses.specs.Readings.{StandBelow}
use Rattle.uses.proofs.EngineLemmas.{logged_sound}

abbrev names : List (List ℕ)
names = text_lines (logged_lines (codes "a.txt" ++ 0x0A ∷ codes "b"))

abbrev named_rows : List (List Cell)
named_rows = rows_of 10 (codes "a.txt") ++ rows_of 10 (codes "b")

-- the lists after both names
abbrev named : Lists
named = logged 10 4 false names [] forgotten_lists

pub names_plain : IsTrue (are_plain (names ++ all_lines []))
unfolding char_width unicode_width visible is_plain chars encode
names_plain = refl

rows_are : all_rows 10 named ≡ named_rows
unfolding char_width unicode_width rows_of visible logged shown_rows lines_of fitting grouped chars encode
rows_are = refl

height_is : lists_height named ≡ 2
unfolding char_width unicode_width rows_of visible logged shown_rows lines_of fitting grouped chars encode
height_is = refl

-- what a log of them does, by its answer
abbrev Tries : TermView → TermView → Result Unit Refusal → Type 0
Tries v v' answer = Paints v v' (is_failure answer) forgotten_lists (lists_after answer forgotten_lists (logged v.columns v.rows false names [] forgotten_lists))

pub forgotten_again : {T : Type 0} (engine : Engine T) (v : TermView) (e : Refusal) (kind : ErrorKind) → e ≡ Failure kind →
    Fits engine (lists_after (Err e) forgotten_lists (logged v.columns v.rows false names [] forgotten_lists)) → Fits engine forgotten_lists
forgotten_again engine v e kind is fits = rw is at fits

-- ---- rows

-- the first rows after all of the bytes
stay_at_end : (n : ℕ) (t : Terminal) (bytes : List ℕ) → RowsStay n t bytes → take n (after t bytes).screen.rows ≡ take n t.screen.rows
stay_at_end n t bytes stays = ap (λ b. take n (after t b).screen.rows) (sym (take_all (length bytes) bytes (omega arith))) ∙ stays (length bytes)

same_front : (a b c : List (List Cell)) (k n : ℕ) → k ≤ n → take k b ≡ take k a → take n c ≡ take n b → take k c ≡ take k a
same_front a b c k n inside e f = sym (take-take k n c inside) ∙ ap (take k) f ∙ take-take k n b inside ∙ e

-- rows that look as the names', behind others of which the first are these
stand_below : (first all front shown : List (List Cell)) (k n : ℕ) → take n all ≡ front ++ shown → take k all ≡ first → k ≤ length front → k ≤ n → looks_of shown ≡ looks_of named_rows →
    StandBelow first named_rows all
stand_below first all front shown k n e f inside below looks =
    let begins : take k front ≡ first = sym (take-append-le k front shown inside) ∙ ap (take k) (sym e) ∙ take-take k n all below ∙ f in
    let parts : front ≡ first ++ drop k front = sym (take-append-drop k front) ∙ ap (λ x. x ++ drop k front) begins in
    (drop k front, shown, drop n all, sym (take-append-drop n all) ∙ ap (λ x. x ++ drop n all) (e ∙ ap (λ x. x ++ shown) parts), looks)

-- ---- one log behind another

-- a terminal that has failed, and before which another did whose rows still stand down to its cursor's
record Failed (t : Terminal) (v : TermView) (now : Terminal) : Type 0 where
  told_is : v.told ≡ State now
  placed : Placed 10 4 forgotten_lists now
  reached : t.screen.row ≤ now.screen.row
  kept : take (t.screen.row + 1) now.screen.rows ≡ take (t.screen.row + 1) t.screen.rows

failed_first : (t : Terminal) (v : TermView) → v.told ≡ State t → Placed 10 4 forgotten_lists t → Failed t v t
failed_first t v told placed = record { told_is = told; placed = placed; reached = omega arith; kept = refl }

failed_again : (v v' : TermView) → v.columns ≡ 10 → v.rows ≡ 4 → v'.columns ≡ v.columns → v'.rows ≡ v.rows → (p : Paints v v' true forgotten_lists forgotten_lists) → (t : Terminal) →
    v.told ≡ State t → Placed 10 4 forgotten_lists t → Failed t v' (after t p.bytes)
failed_again v v' columns rows columns_stay rows_stay p t told placed =
    let own : Placed v.columns v.rows forgotten_lists t = rw (columns, rows) placed in
    let led = p.places t own in
    record {
      told_is = p.told_is (rw told refl) ∙ ap (λ x. led_on x p.bytes) told;
      placed = rw (columns_stay, rows_stay, columns, rows) at led.0;
      reached = omega (arith, led.1);
      kept = stay_at_end (t.screen.row + 1) t p.bytes (p.stays t own);
    }

-- the names stand, if a terminal had failed so
abbrev Stands : Terminal → TermView → Type 0
Stands t v = (next : Terminal) × (v.told ≡ State next) × StandBelow (take (t.screen.row + 1) t.screen.rows) named_rows next.screen.rows

abbrev Stand : TermView → TermView → Type 0
Stand v v' = (t : Terminal) → Placed 10 4 forgotten_lists t → v.told ≡ State t → Stands t v'

module _ (shows : (w h : ℕ) (opening : Screen) (l : Lists) (t : Terminal) → RestsOver w h opening l t → IsFalse l.failed →
    (shown : List (List Cell)) × (take (opening.row + lists_height l) t.screen.rows ≡ take opening.row opening.rows ++ shown) × (looks_of shown ≡ looks_of (all_rows w l)))
    (over : (w h : ℕ) (t : Terminal) → Placed w h forgotten_lists t → RestsOver w h (on_next_row (emptied_below t.screen)) forgotten_lists t) where
  logged_over : (v v' : TermView) → v.columns ≡ 10 → v.rows ≡ 4 → v'.columns ≡ v.columns → v'.rows ≡ v.rows → Tries v v' (Ok tt) → (t now : Terminal) → Failed t v now → Stands t v'
  logged_over v v' columns rows columns_stay rows_stay p t now f =
      let next = after now p.bytes in
      let opening = on_next_row (emptied_below now.screen) in
      let own : Placed v.columns v.rows forgotten_lists now = rw (columns, rows) f.placed in
      let behind : RestsOver 10 4 opening named next = rw (columns_stay, rows_stay, columns, rows) at (p.over refl opening now (over v.columns v.rows now own)) in
      let sound = logged_sound 10 4 false names [] forgotten_lists in
      let s = shows 10 4 opening named next behind sound in
      let o : IsOpening 10 4 opening = (behind.rests.shows sound).opens in
      let k = t.screen.row + 1 in
      let m = now.screen.row + 1 in
      let first = subst (λ h. take (m + h) next.screen.rows ≡ take m opening.rows ++ s.0) height_is s.1 in
      let kept = same_front t.screen.rows now.screen.rows next.screen.rows k m (omega (arith, f.reached)) f.kept (stay_at_end m now p.bytes (p.stays now own)) in
      let inside : length (take m opening.rows) ≡ m = length-take-le m opening.rows (omega (arith, o.in_rows)) in
      let looks = subst (λ rows. looks_of s.0 ≡ looks_of rows) rows_are s.2 in (
        next,
        p.told_is (rw f.told_is refl) ∙ ap (λ x. led_on x p.bytes) f.told_is,
        stand_below (take k t.screen.rows) next.screen.rows (take m opening.rows) s.0 k (m + 2) first kept (omega (arith, f.reached, inside)) (omega (arith, f.reached)) looks,
      )

  pub logged_at_once : (v v' : TermView) (answer : Result Unit Refusal) → v.columns ≡ 10 → v.rows ≡ 4 → Counted v v' answer → Tries v v' answer → IfOk answer (λ _. Stand v v')
  logged_at_once v v' (Err e) columns rows counted p = tt
  logged_at_once v v' (Ok u) columns rows counted p = λ t placed told. logged_over v v' columns rows counted.columns_stay counted.rows_stay p t t (failed_first t v told placed)

  pub logged_once_more : (v v' v'' : TermView) (e : Refusal) (kind : ErrorKind) (answer : Result Unit Refusal) → e ≡ Failure kind → v.columns ≡ 10 → v.rows ≡ 4 →
      Counted {A = Unit {0}} v v' (Err e) → Counted v' v'' answer → Tries v v' (Err e) → Tries v' v'' answer → IfOk answer (λ _. Stand v v'')
  logged_once_more v v' v'' e kind (Err x) is columns rows counted last p q = tt
  logged_once_more v v' v'' e kind (Ok u) is columns rows counted last tries q = λ t placed told.
      let p : Paints v v' true forgotten_lists forgotten_lists = rw is at tries in
      logged_over v' v'' (counted.columns_stay ∙ columns) (counted.rows_stay ∙ rows) last.columns_stay last.rows_stay q t (after t p.bytes)
      (failed_again v v' columns rows counted.columns_stay counted.rows_stay p t told placed)
