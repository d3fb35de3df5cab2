-- A call more makes a run with one call more, also of a terminal that tells nothing.
use Rattle.std.proofs.Common.{◌≡◌, ℕ, ◌+◌, ◌%◌, ◌^◌, Bool, List, [], ◌∷◌, ◌++◌, map, refl, sym, subst, ap, ◌∙◌, Option, Some, None, Result, Ok, Err, if◌then◌else◌, IfOk}
use Rattle.std.proofs.lemmas.Bool.{false≢true}
use Rattle.std.proofs.lemmas.List.{map-append}
use Rattle.std.specs.Prelude.{◌≢◌}
use Rattle.std.specs.declared.io.ErrorKind.{ErrorKind}
use Rattle.std.specs.declared.io.ErrorKind.TheVariants.{Other}
use Rattle.indicatif_text.specs.declared.refusal.Refusal.{Refusal}
use Rattle.indicatif_text.specs.declared.refusal.Drawn.{Drawn}
use Rattle.indicatif_text.specs.declared.refusal.Drawn.TheVariants.{Yes}
use Rattle.indicatif_term.specs.Calls.{TermView, Nothing, is_told}
use Rattle.indicatif_term.specs.Engines.{Paints, is_failure, failure_kind}
use Rattle.indicatif_term.specs.Limiters.{Limiter}
use Rattle.indicatif_term.specs.Lists.{Lists}
use Rattle.indicatif_bar.specs.Trackers.{Tracking}
use Rattle.indicatif_bar.specs.Commands.{BarRecord, Command}
use Rattle.indicatif_bar.specs.Machines.{Target, target_of, Machine}
use Rattle.indicatif_bar.specs.Runs.{CallMade}
use Rattle.indicatif_bar.proofs.OutcomeLemmas.{wrote-fine}
use Rattle.indicatif_bar.proofs.RunLemmas.{runs-push}
use Rattle.indicatif_board.specs.BoardBars.{board_bars}
use Rattle.indicatif_board.specs.Boards.{BoardState, Call, Remove, Id, Answer, Drew, says, opening_board, board}
use Rattle.indicatif_board.specs.Calls.{call_of, answer_of, removal}
use Rattle.indicatif_board.specs.Members.{Member, is_member, said_of}
use Rattle.indicatif_board.specs.Multi.{IsIn, LeadsBy, SlotsLeft, SlotsChange, RecordsChange, HeadHasRecord, known, slots_of}
use Rattle.indicatif_board.specs.Recorded.{BoardStep, Record, IsRun, IsOneRun, AddsCall, calls_of, answers_of, step_of, target_by, untold, handed_back}
use Rattle.indicatif_board.specs.Inside.Calls.{removed_back}
use Rattle.indicatif_board.specs.declared.multi.Board.{Board}
use Rattle.indicatif_board.specs.declared.recorded.Entry.{Entry}
use Rattle.indicatif_board.specs.declared.recorded.Size.{Size}

-- ---- a call of a terminal that tells nothing

-- what was painted on a terminal, as of one of its size that tells nothing
untold_paints : (v v' w w' : TermView) (broke : Bool) (l l' : Lists) → v.columns ≡ w.columns → v.rows ≡ w.rows → v'.columns ≡ w'.columns → v'.rows ≡ w'.rows → w.told ≡ Nothing →
    Paints v v' broke l l' → Paints w w' broke l l'
untold_paints v v' w w' broke l l' a b c d none p = record {
  bytes = p.bytes;
  told_is = λ told. absurd (false≢true (sym (ap is_told none) ∙ told));
  stays = λ t placed. p.stays t (rw (a, b) placed);
  places = λ t placed. rw (sym c, sym d) (p.places t (rw (a, b) placed));
  rests = λ fine opening t rest. rw (sym c, sym d) (p.rests fine opening t (rw (a, b) rest));
  over = λ fine opening t rest. rw (sym c, sym d) (p.over fine opening t (rw (a, b) rest));
  added = p.added;
  calm = p.calm;
  drawings = p.drawings;
}

-- a call led a terminal that tells nothing on as it did the one that it was made on
pub untold_call : {S C A : Type 0} (m : Machine S C A) (old new : Option TermView) (call : C × ℕ) (s next : S) (answer : A) (faults : ℕ) (kind : ErrorKind) →
    CallMade m old new call s answer next →
    (faults' : ℕ) × (kind' : ErrorKind) × CallMade m (untold (target_of old) faults kind) (untold (target_of old) faults' kind') call s answer next
untold_call m None new call s next answer faults kind made = (faults, kind, record { leads = made.leads; writes = refl })
untold_call m (Some v) new call s next answer faults kind made =
    let said = m.tells answer in
    let faults' = if is_failure said then ((faults + 1) % 2 ^ 64) else faults in
    let kind' = if is_failure said then failure_kind said else kind in
    let view : ℕ → ErrorKind → TermView = λ f k. record { told = Nothing; columns = v.columns; rows = v.rows; faults = f; kind = k } in
    let w = view faults kind in
    let w' = view faults' kind' in
    let v' = made.writes.0 in
    let writes = made.writes.2 in (
      faults',
      kind',
      record {
        leads = made.leads;
        writes = (
          w',
          refl,
          record {
            counted = record { columns_stay = refl; rows_stay = refl; faults_are = refl; kind_is = refl };
            silent = λ quiet. let fine = wrote-fine said quiet in ap (λ b. view (if b then ((faults + 1) % 2 ^ 64) else faults) (if b then failure_kind said else kind)) fine;
            paints = λ plain. untold_paints v v' w w' (is_failure said) (m.lists s) (m.lists next) refl refl writes.counted.columns_stay writes.counted.rows_stay refl (writes.paints plain);
          },
        );
      },
    )

-- a target by a size, as it is known
pub sized : (size : Option Size) (faults : ℕ) (kind : ErrorKind) → target_of (untold (target_by size) faults kind) ≡ target_by size
sized None faults kind = refl
sized (Some size) faults kind = refl

-- before the first call
pub run_begins : {K T : Type 0} (m : Tracking K) (mark : ℕ) (limiter : Option Limiter) (target : Target) (b : Board K T) (steps : List (BoardStep K)) (opened : Option TermView) →
    steps ≡ [] → target_of opened ≡ target → IsIn mark b (opening_board limiter) →
    IsRun m opened (record { mark = mark; limiter = limiter; target = target; board = b; steps = steps }) opened
run_begins m mark limiter target b [] opened none size holds = record { size = size; state = opening_board limiter; holds = holds; runs = (refl, refl) }
run_begins m mark limiter target b (e ∷ steps) opened none size holds = absurd (cc none)

-- ---- a call more

-- an entry more
pub steps_more : {K : Type 0} (before after : List (Entry K)) (e : Entry K) (call : Call (BarRecord K) (Command K)) (now : ℕ) (answer : Answer) →
    after ≡ before ++ e ∷ [] → call_of e.call ≡ call → e.now ≡ now → answer_of e.answer ≡ answer →
    map step_of after ≡ map step_of before ++ record { call = call; now = now; answer = answer } ∷ []
steps_more before after e call now answer items asked at said =
    let same : step_of e ≡ record { call = call; now = now; answer = answer } = cc (asked, at, said) in
    ap (map step_of) items ∙ map-append step_of before (e ∷ []) ∙ ap (λ x. map step_of before ++ x ∷ []) same

module _ {K T : Type 0} (m : Tracking K) (view : T → TermView) (mark : ℕ) (limiter : Option Limiter) (target : Target) (old new : Board K T) (steps now_steps : List (BoardStep K))
    (call : Call (BarRecord K) (Command K)) (now : ℕ) (answer : Answer) (grown : now_steps ≡ steps ++ record { call = call; now = now; answer = answer } ∷ []) where
  -- before and after
  abbrev before : Record K T
  before = record { mark = mark; limiter = limiter; target = target; board = old; steps = steps }

  abbrev after : Record K T
  after = record { mark = mark; limiter = limiter; target = target; board = new; steps = now_steps }

  -- a run goes on
  run_more : (opened between last : Option TermView) (run : IsRun m opened before between) (next : BoardState (BarRecord K)) → IsIn mark new next →
      CallMade (board (board_bars m) mark) between last (call, now) run.state answer next → IsRun m opened after last
  run_more opened between last run next holds made =
      let machine = board (board_bars m) mark in
      let e : BoardStep K = record { call = call; now = now; answer = answer } in
      let calls : calls_of now_steps ≡ calls_of steps ++ (call, now) ∷ [] = ap calls_of grown ∙ map-append (λ (x : BoardStep K). (x.call, x.now)) steps (e ∷ []) in
      let answers : answers_of now_steps ≡ answers_of steps ++ answer ∷ [] = ap answers_of grown ∙ map-append (λ (x : BoardStep K). x.answer) steps (e ∷ []) in
      let longer = runs-push machine (calls_of steps) (answers_of steps) opened (opening_board limiter) between run.state last next (call, now) answer run.runs made in
      record {
        size = run.size;
        state = next;
        holds = holds;
        runs = rw (calls, answers) longer;
      }

  -- on its own terminal
  pub run_goes_on : LeadsBy m view old new call now answer → (opened : Option TermView) → IsRun m opened before (known view old) → IsRun m opened after (known view new)
  run_goes_on led opened run =
      let made = led mark run.state run.holds in
      run_more opened (known view old) (known view new) run made.0 made.1 made.2

  -- as of one that tells nothing
  pub run_grows : target_of (known view old) ≡ target → LeadsBy m view old new call now answer → IsOneRun m before → IsOneRun m after
  run_grows size led one =
      let run = one.2 in
      let machine = board (board_bars m) mark in
      let made = led mark run.state run.holds in
      let call_made = untold_call machine (known view old) (known view new) (call, now) run.state made.0 answer one.0 one.1 made.2 in
      let here = subst (λ t. CallMade machine (untold t one.0 one.1) (untold t call_made.0 call_made.1) (call, now) run.state answer made.0) size call_made.2 in
      (call_made.0, call_made.1, run_more (untold target 0 Other) (untold target one.0 one.1) (untold target call_made.0 call_made.1) run made.0 made.1 here)

  -- what it adds
  pub grown_so : target_of (known view old) ≡ target → LeadsBy m view old new call now answer → SlotsChange call answer old new → RecordsChange m call now answer old new →
      AddsCall m view before call now answer after
  grown_so size led slots_go records_go = record { mark = refl; limiter = refl; target = refl; size = size; steps = grown; leads = led; slots = slots_go; records = records_go }

-- the bar of a removal
pub removed_is_back : {K : Type 0} (r : Result (Option (BarRecord K)) Refusal) (id : Id) (other : BarRecord K) (members : List (Member (BarRecord K))) →
    IfOk r (λ bar. bar ≡ (if is_member id.number members then Some (said_of other (λ b. b) id.number members) else None)) →
    removed_back r ≡ handed_back (Remove id) (removal r) other members
removed_is_back (Ok bar) id other members is = is
removed_is_back (Err e) id other members is = refl

-- who left, by what was answered
said_yes : (r : Result Drawn Refusal) → says r ≡ Drew Yes → r ≡ Ok Yes
said_yes (Ok d) e = cc e
said_yes (Err e) said = absurd (cc said)

pub said_slots : {K T : Type 0} (r : Result Drawn Refusal) (told : Answer) (b c : Board K T) → told ≡ says r →
    SlotsLeft b c → (r ≡ Ok Yes → HeadHasRecord c) → (r ≢ Ok Yes → slots_of c ≡ slots_of b) →
    SlotsLeft b c × (told ≡ Drew Yes → HeadHasRecord c) × (told ≢ Drew Yes → slots_of c ≡ slots_of b)
said_slots r told b c is left head stay = (left, λ e. head (said_yes r (sym is ∙ e)), λ other. stay (λ yes. other (is ∙ ap says yes)))
