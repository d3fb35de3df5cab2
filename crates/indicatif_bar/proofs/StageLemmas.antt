-- What an engine's answer makes of its stage, of whatever draws: a text above a frame, a draw, and a size, which is a script.
use Rattle.std.proofs.Common.{◌≡◌, ℕ, zero, suc, ◌<◌, ◌⊎◌, inl, inr, Bool, true, false, List, [], ◌∷◌, ◌++◌, length, drop, refl, sym, ◌∙◌, ap, subst, arith, Result, Ok, Err, Option, Some, None, option_map}
use Rattle.std.specs.Prelude.{IsTrue, IsFalse, IfOk, IfErr, MatchOption, ◌↔◌}
use Rattle.std.proofs.lemmas.Bool.{lt-ltb}
use Rattle.indicatif_text.specs.declared.refusal.Refusal.{Refusal}
use Rattle.indicatif_text.specs.declared.refusal.Refusal.TheVariants.{Memory, ZeroSize}
use Rattle.indicatif_text.specs.declared.refusal.Drawn.{Drawn}
use Rattle.indicatif_text.specs.declared.refusal.Drawn.TheVariants.{Hidden}
use Rattle.indicatif_term.specs.Calls.{TermView}
use Rattle.indicatif_term.specs.Limiters.{Limiter}
use Rattle.indicatif_term.specs.Lists.{Lists, BarLines, drawn, logged, cleared, opening_lists}
use Rattle.indicatif_term.specs.Lines.{all_lines, are_plain, is_fault}
use Rattle.indicatif_term.specs.Engines.{engine_moves, engine_term, Fits, Answers, Counted, Paints, is_failure, lists_after}
use Rattle.indicatif_term.specs.declared.engine.Engine.{Engine}
use Rattle.indicatif_term.proofs.SomeListsLemmas.{some_fit}
use Rattle.indicatif_bar.specs.Kinds.{Frame, TextAndFrame, NoFrame, has_line}
use Rattle.indicatif_bar.specs.Machines.{target_of, Target, Machine, Draw, is_no}
use Rattle.indicatif_bar.specs.Shown.{PutsFrame, DrewBy, DrewOn}
use Rattle.indicatif_bar.specs.Scripts.{Sizing, Size, SizedOn, sized_lists, sized, Plays}
use Rattle.indicatif_bar.specs.Stages.{stage_known, IsStaged}
use Rattle.indicatif_bar.specs.declared.stage.Stage.{Stage}
use Rattle.indicatif_bar.proofs.OutcomeLemmas.{drew_none, outcome-hidden}

-- a text above the rest of a frame
pub puts_text : {T : Type 0} (view : T → TermView) (text : List (List ℕ)) (bottom : Bool) (gone : ℕ) (frame rest : List BarLines) (old new : Engine T) (r : Result Unit Refusal) →
    drop gone frame ≡ rest → (r ≡ Err Memory → 0 < length (all_lines rest)) →
    Answers (view (engine_term old)).columns (text ++ all_lines rest) r → Counted (view (engine_term old)) (view (engine_term new)) r → IfErr r (λ e. IsFalse (is_fault e) → new ≡ old) →
    engine_moves new ≡ engine_moves old →
    ((l : Lists) → Fits old l → Fits new (lists_after r l (logged (view (engine_term old)).columns (view (engine_term old)).rows bottom text rest l))) →
    ((l : Lists) → Fits old l → IsTrue (are_plain (text ++ all_lines rest)) →
    Paints (view (engine_term old)) (view (engine_term new)) (is_failure r) l (lists_after r l (logged (view (engine_term old)).columns (view (engine_term old)).rows bottom text rest l))) →
    PutsFrame view (TextAndFrame text) bottom gone frame old new r
puts_text view text bottom gone frame rest old new r e takes answers counted unchanged moves lists paints =
    let v = view (engine_term old) in
    let v' = view (engine_term new) in
    let b = sym e in
    record {
      answers = subst (λ x. Answers v.columns (text ++ all_lines x) r) b answers;
      memory = λ short. subst (λ x. has_line x ≡ true) b (lt-ltb 0 (length (all_lines rest)) (takes short));
      counted = counted;
      unchanged = unchanged;
      moves = moves;
      lists = λ l f. subst (λ x. Fits new (lists_after r l (logged v.columns v.rows bottom text x l))) b (lists l f);
      paints = λ l f plain. subst (λ x. Paints v v' (is_failure r) l (lists_after r l (logged v.columns v.rows bottom text x l))) b (paints l f (subst (λ x. IsTrue (are_plain
          (text ++ all_lines x))) e plain));
    }

-- a frame
pub puts_frame : {T : Type 0} (view : T → TermView) (bottom : Bool) (gone : ℕ) (frame : List BarLines) (old new : Engine T) (r : Result Unit Refusal) →
    (r ≡ Err Memory → 0 < length (all_lines frame)) →
    Answers (view (engine_term old)).columns (all_lines frame) r → Counted (view (engine_term old)) (view (engine_term new)) r → IfErr r (λ e. IsFalse (is_fault e) → new ≡ old) →
    engine_moves new ≡ engine_moves old →
    ((l : Lists) → Fits old l → Fits new (lists_after r l (drawn (view (engine_term old)).columns (view (engine_term old)).rows bottom gone frame l))) →
    ((l : Lists) → Fits old l → IsTrue (are_plain (all_lines frame)) →
    Paints (view (engine_term old)) (view (engine_term new)) (is_failure r) l (lists_after r l (drawn (view (engine_term old)).columns (view (engine_term old)).rows bottom gone frame l))) →
    PutsFrame view Frame bottom gone frame old new r
puts_frame view bottom gone frame old new r takes answers counted unchanged moves lists paints = record {
  answers = answers;
  memory = λ short. lt-ltb 0 (length (all_lines frame)) (takes short);
  counted = counted;
  unchanged = unchanged;
  moves = moves;
  lists = lists;
  paints = paints;
}

-- nothing, in the place of what stood
pub puts_nothing : {T : Type 0} (view : T → TermView) (bottom : Bool) (gone : ℕ) (frame : List BarLines) (old new : Engine T) (r : Result Unit Refusal) → (r ≡ Err Memory → ⊥) →
    Answers (view (engine_term old)).columns [] r → Counted (view (engine_term old)) (view (engine_term new)) r → IfErr r (λ e. IsFalse (is_fault e) → new ≡ old) →
    engine_moves new ≡ engine_moves old → ((l : Lists) → Fits old l → Fits new (lists_after r l (cleared l))) →
    ((l : Lists) → Fits old l → Paints (view (engine_term old)) (view (engine_term new)) (is_failure r) l (lists_after r l (cleared l))) →
    PutsFrame view NoFrame bottom gone frame old new r
puts_nothing view bottom gone frame old new r ample answers counted unchanged moves lists paints = record {
  answers = answers;
  memory = λ short. absurd (ample short);
  counted = counted;
  unchanged = unchanged;
  moves = moves;
  lists = lists;
  paints = λ l f plain. paints l f;
}

-- what a draw of an engine says of its stage
pub drew_staged : {S C A T : Type 0} (m : Machine S C A) (P : S → Type 0) (limiter : S → Option Limiter) (view : T → TermView) (old new : Stage T) (e e' : Engine T) (d : Target → Draw S)
    (l : Lists) (answer : Result Drawn Refusal) → old.engine ≡ Some e → new.engine ≡ Some e' →
    DrewBy m (λ s. P s × (new.limiter ≡ limiter s)) view e e' (d (target_of (Some (view (engine_term e))))) l answer →
    (next : S) × P next × IsStaged new (limiter next) (m.lists next) × DrewOn m (stage_known view old) (stage_known view new) (d (target_of (stage_known view old))) l answer next
drew_staged {T = T} m P limiter view old new e e' d l answer old_is new_is b =
    let known = λ (o : Option (Engine T)). option_map view (option_map engine_term o) in (
      b.next,
      b.holds.0,
      (b.holds.1, subst (λ o. MatchOption o (m.lists b.next ≡ opening_lists) (λ x. Fits x (m.lists b.next))) (sym new_is) b.fits),
      subst (λ o. DrewOn m (known o) (known new.engine) (d (target_of (known o))) l answer b.next) (sym old_is)
          (subst (λ o. DrewOn m (known (Some e)) (known o) (d (target_of (known (Some e)))) l answer b.next) (sym new_is)
          (record { leads = b.leads; writes = (view (engine_term e'), refl, b.writes) })),
    )

-- an option that holds nothing
none_of : {X : Type 0} (o : Option X) → ((x : X) → o ≡ Some x → ⊥) → o ≡ None
none_of None other = refl
none_of (Some x) other = absurd (other x refl)

-- a draw on a stage whose target is hidden
pub drew_hidden : {S C A T : Type 0} (m : Machine S C A) (P : S → Type 0) (limiter : S → Option Limiter) (view : T → TermView) (stage : Stage T) (d : Target → Draw S)
    (s : S) → ((e : Engine T) → stage.engine ≡ Some e → ⊥) → is_no (d (target_of None)).ask ≡ false → (d (target_of None)).after_command ≡ s → P s → IsStaged stage (limiter s) (m.lists s) →
    (next : S) × P next × IsStaged stage (limiter next) (m.lists next)
    × DrewOn m (stage_known view stage) (stage_known view stage) (d (target_of (stage_known view stage))) (m.lists s) (Ok Hidden) next
drew_hidden m P limiter view stage d s shown asked after holds staged =
    let none = ap (λ o. option_map view (option_map engine_term o)) (none_of stage.engine shown) in
    let made = outcome-hidden (target_of None) (d (target_of None)) asked refl ∙ ap (λ x. (Ok Hidden, x)) after in
    (s, holds, staged, subst (λ o. DrewOn m o o (d (target_of o)) (m.lists s) (Ok Hidden) s) (sym none) (drew_none m None (d (target_of None)) (m.lists s) (Ok Hidden) s refl refl made))

-- lists that an engine may have; where there is none, those of no rows
lists_on : {T : Type 0} (e : Option (Engine T)) → (l : Lists) × MatchOption e (l ≡ opening_lists) (λ x. Fits x l)
lists_on None = (opening_lists, refl)
lists_on (Some x) = let f = some_fit x x.some in (f.0, f.1)

-- every stage may have some rows
pub some_staged : {T : Type 0} (stage : Stage T) → (l : Lists) × IsStaged stage stage.limiter l
some_staged stage = let f = lists_on stage.engine in (f.0, (refl, f.1))

-- ---- a size

positive : (n : ℕ) → (n ≡ 0 → ⊥) → 0 < n
positive zero none = absurd (none refl)
positive (suc n) none = omega arith

-- what a stage says of the size that it took, and what follows for a state
pub size_played : {S C A T : Type 0} (m : Machine S C A) (z : Sizing m) (view : T → TermView) (w h : ℕ) (old new : Stage T) (limiter : Option Limiter) (P : S → Type 0) (s : S)
    (r : Result Unit Refusal) → ((r ≡ Err ZeroSize) ↔ ((h ≡ 0) ⊎ (w ≡ 0))) → IsStaged old limiter (m.lists s) →
    (IsStaged new limiter (sized_lists w h (target_of (stage_known view old)) (m.lists s)) → P (sized m z w h (target_of (stage_known view old)) s)) →
    IfOk r (λ u. SizedOn w h (stage_known view old) (stage_known view new)) →
    IfOk r (λ u. (limiter : Option Limiter) (l : Lists) → IsStaged old limiter l → IsStaged new limiter (sized_lists w h (target_of (stage_known view old)) l)) →
    IfOk r (λ u. P (sized m z w h (target_of (stage_known view old)) s)
    × Plays m z (Size w h ∷ []) (stage_known view old) s (stage_known view new) (sized m z w h (target_of (stage_known view old)) s))
size_played m z view w h old new limiter P s (Ok u) nothing staged holds is lists = (
  holds (lists limiter (m.lists s) staged),
  (
    stage_known view new,
    is,
    positive w (λ e. let q : Ok u ≡ Err ZeroSize = nothing.1 (inr e) in cc),
    positive h (λ e. let q : Ok u ≡ Err ZeroSize = nothing.1 (inl e) in cc),
    (refl, refl),
  ),
)
size_played m z view w h old new limiter P s (Err x) nothing staged holds is lists = tt
