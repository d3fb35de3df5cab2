-- Lines played one after another on a board.
use Rattle.std.proofs.Common.{◌≡◌, ℕ, zero, suc, ◌<◌, ◌⊎◌, Bool, true, false, List, [], ◌∷◌, ◌++◌, map, refl, sym, ◌∙◌, ap, subst, arith, Option, Some, None, Result, Ok, Err, inl, inr}
use Rattle.std.specs.Prelude.{◌||◌, IsFalse, IfOk, OnOk, codes}
use Rattle.std.specs.List.{list_any}
use Rattle.std.proofs.lemmas.Bool.{or_parts}
use Rattle.std.proofs.lemmas.List.{map-append}
use Rattle.indicatif_text.specs.declared.refusal.Refusal.{Refusal}
use Rattle.indicatif_text.specs.declared.refusal.Refusal.TheVariants.{Memory, ZeroSize}
use Rattle.indicatif_text.specs.Template.{TemplatePart, KeyText, Keyed, Parses, plain_layout, front, end, piece, parts_of}
use Rattle.indicatif_term.specs.Calls.{TermView}
use Rattle.indicatif_term.specs.Target.{is_bottom}
use Rattle.indicatif_term.specs.Cells.{view_of}
use Rattle.indicatif_bar.specs.Machines.{Machine, target_of}
use Rattle.indicatif_bar.specs.Scripts.{ScriptPart, Called, Size, Sizing, sized, Plays}
use Rattle.indicatif_bar.specs.Trackers.{writes_nothing}
use Rattle.indicatif_board.specs.Boards.{BoardState, Align, Answer, Accepted, Refused, opening_board}
use Rattle.indicatif_board.specs.Multi.{IsIn, LeadsBy, known}
use Rattle.bars_run.specs.declared.arguments.Asked.{Asked}
use Rattle.bars_run.specs.Arguments.{HasCells}
use Rattle.bars_run.specs.Commands.{Spelled, and_then, each, spelled}
use Rattle.bars_run.specs.Inside.Players.{Played, empty_memory, unanswered, Makes, Obeys, HasPlayed}
use Rattle.bars_run.specs.Player.{Bar, BarCall, Step, machine, sizing, calling, script_step, script_of, is_refused, any_refused}

-- ---- what stands for each

pub both : {Y : Type 0} (o : Option Y) (os : Option (List Y)) (zs : List Y) → and_then o os ≡ Some zs → (y : Y) × (ys : List Y) × (o ≡ Some y) × (os ≡ Some ys) × (zs ≡ y ∷ ys)
both (Some y) (Some ys) zs e = (y, ys, refl, refl, (let p : zs ≡ y ∷ ys = cc in p))
both (Some y) None zs e = absurd (cc)
both None os zs e = absurd (cc)

each-push : {X Y : Type 0} (f : X → Option Y) (xs : List X) (x : X) (ys : List Y) (y : Y) → each f xs ≡ Some ys → f x ≡ Some y → each f (xs ++ x ∷ []) ≡ Some (ys ++ y ∷ [])
each-push f [] x ys y e h = let n : [] ≡ ys = cc in ap (λ o. and_then o (Some [])) h ∙ ap (λ zs. Some (zs ++ y ∷ [])) n
each-push f (w ∷ ws) x ys y e h =
    let p = both (f w) (each f ws) ys e in
    ap (λ o. and_then o (each f (ws ++ x ∷ []))) p.2 ∙ ap (and_then (Some p.0)) (each-push f ws x p.1 y p.3 h) ∙ ap (λ zs. Some (zs ++ y ∷ [])) (sym p.4)

-- ---- one step

-- a call that was answered well
pub called : (call : BarCall) (answer : Answer) (old new : Played) → is_refused answer ≡ false → LeadsBy writes_nothing view_of old new call 0 answer → Makes (calling call) old new
called call answer old new fine leads s is =
    let r = leads 0 s is in
    let v = known view_of new in
    (Called ((call, 0) ∷ []) (answer ∷ []), refl, rw fine refl, r.0, r.1, (v, r.0, (v, r.0, r.2, (refl, refl)), (refl, refl)))

-- where bars stand is never refused
pub align_taken : (bottom : Bool) (e : Refusal) (old new : Played) → IsIn 0 old (opening_board None) → LeadsBy writes_nothing view_of old new (Align bottom) 0 (Refused e) → ⊥
align_taken bottom e old new is leads = elim (leads 0 (opening_board None) is).2.leads [
  | inl made ↦ absurd (let q : Refused e ≡ Accepted = ap (λ o. o.0) made in cc)
  | inr short ↦ absurd (let q : false ≡ true = short.1 in cc)
]

-- a terminal that would have no cells, or memory was refused for it
pub no_cells : (asked : Asked) (e : Refusal) → (e ≡ ZeroSize) ⊎ (e ≡ Memory) → (e ≡ ZeroSize → (asked.size.rows ≡ 0) ⊎ (asked.size.columns ≡ 0)) →
    (e ≡ Memory) ⊎ ((e ≡ ZeroSize) × (HasCells asked.size → ⊥))
no_cells asked e why none = elim why [
  | inl z ↦ inr (z, λ cells. elim (none z) [ inl r ↦ omega (arith, r, cells.0) | inr w ↦ omega (arith, w, cells.1) ])
  | inr m ↦ inl m
]

-- a size that was taken
pub resized : {X E : Type 0} (r : Result X E) (w h : ℕ) (old new : Played) →
    ((s : BoardState Bar) → IsIn 0 old s → let next = sized machine sizing w h (target_of (known view_of old)) s in
    IfOk r (λ _. IsIn 0 new next × Plays machine sizing (Size w h ∷ []) (known view_of old) s (known view_of new) next)) → OnOk r (Makes (Size w h) old new)
resized (Ok done) w h old new plays = λ s is. let r = plays s is in (Size w h, refl, refl, sized machine sizing w h (target_of (known view_of old)) s, r.0, r.1)
resized (Err e) w h old new plays = tt

-- a command whose step was made
pub obeyed : {X E : Type 0} (r : Result X E) (command : Spelled) (step : Step) (old new : Played) → script_step command ≡ Some step → OnOk r (Makes step old new) → OnOk r (Obeys command old new)
obeyed (Ok done) command step old new is made = (step, is, made)
obeyed (Err e) command step old new is made = tt

-- ---- one line more

module _ {S C A : Type 0} (m : Machine S C A) (z : Sizing m) where
  plays-push : (parts : List (ScriptPart C A)) (part : ScriptPart C A) (old : Option TermView) (s : S) (v : Option TermView) (x : S) (new : Option TermView) (next : S) →
      Plays m z parts old s v x → Plays m z (part ∷ []) v x new next → Plays m z (parts ++ part ∷ []) old s new next
  plays-push [] part old s v x new next front one = subst (λ y. Plays m z (part ∷ []) old y new next) front.1 (subst (λ o. Plays m z (part ∷ []) o x new next) front.0 one)
  plays-push (Called calls answers ∷ parts) part old s v x new next front one = (front.0, front.1, front.2, plays-push parts part front.0 front.1 v x new next front.3 one)
  plays-push (Size w h ∷ parts) part old s v x new next front one =
      (front.0, front.1, front.2, front.3, plays-push parts part front.0 (sized m z w h (target_of old) s) v x new next front.4 one)

refused-push : (steps : List Step) (step : Step) → any_refused steps ≡ false → any_refused (step ∷ []) ≡ false → any_refused (steps ++ step ∷ []) ≡ false
refused-push [] step a b = b
refused-push (Called calls answers ∷ steps) step a b = let p = or_parts (list_any is_refused answers) (any_refused steps) a in rw (p.0, refused-push steps step p.1 b) refl
refused-push (Size w h ∷ steps) step a b = refused-push steps step a b

pub begun : (asked : Asked) (new made : Played) → 0 < asked.size.rows → 0 < asked.size.columns → IsIn 0 new (opening_board None) → known view_of new ≡ Some (view_of (empty_memory asked)) →
    Makes (calling (Align (is_bottom asked.alignment))) new made → HasPlayed asked [] made
begun asked new made rows columns opened at call =
    let c = call (opening_board None) opened in
    record {
      some_rows = rows;
      some_columns = columns;
      commands = [];
      commands_are = refl;
      steps = [];
      steps_are = refl;
      made = c.0 ∷ [];
      made_are = ap (λ x. x ∷ []) c.1;
      done = c.2;
      next = c.3;
      holds = c.4;
      plays = subst (λ o. Plays machine sizing (c.0 ∷ []) o (opening_board None) (known view_of made) c.3) at c.5;
    }

pub one_more : (asked : Asked) (lines : List (List ℕ)) (line : List ℕ) (command : Spelled) (old new : Played) → HasPlayed asked lines old → spelled line ≡ Some command → Obeys command old new →
    HasPlayed asked (lines ++ line ∷ []) new
one_more asked lines line command old new p is obeys =
    let step = obeys.0 in
    let c = obeys.2 p.next p.holds in
    record {
      some_rows = p.some_rows;
      some_columns = p.some_columns;
      commands = p.commands ++ command ∷ [];
      commands_are = each-push spelled lines line p.commands command p.commands_are is;
      steps = p.steps ++ step ∷ [];
      steps_are = each-push script_step p.commands command p.steps step p.steps_are obeys.1;
      made = p.made ++ c.0 ∷ [];
      made_are = map-append unanswered p.made (c.0 ∷ []) ∙ ap (λ xs. xs ++ unanswered c.0 ∷ []) p.made_are ∙ ap (λ x. script_of asked p.steps ++ x ∷ []) c.1;
      done = refused-push p.made c.0 p.done c.2;
      next = c.3;
      holds = c.4;
      plays = plays-push machine sizing p.made c.0 (Some (view_of (empty_memory asked))) (opening_board None) (known view_of old) p.next (known view_of new) c.3 p.plays c.5;
    }

-- ---- a template

abbrev pub message_parts : List TemplatePart
message_parts = KeyText (codes "msg") plain_layout ∷ []

pub message_read : Parses (codes "{msg}") message_parts
unfolding front parts_of
message_read = record { pieces = Keyed (codes "msg") plain_layout ∷ []; reads = piece refl end; makes = refl }

pub some_if : (n : ℕ) → (n ≡ 0 → ⊥) → 0 < n
some_if zero h = absurd (h refl)
some_if (suc n) h = omega arith
