-- What a script leaves on the terminal, of whatever draws.
use Rattle.std.proofs.Common.{◌≡◌, ℕ, ◌<◌, ◌≤◌, Bool, true, false, ◌||◌, ◌&&◌, List, [], ◌∷◌, ◌++◌, length, refl, sym, ◌∙◌, ap, subst, arith, append_assoc, append-nil, Option, Some, None, if◌then◌else◌}
use Rattle.std.specs.Prelude.{IsTrue, IsFalse, ◌==◌}
use Rattle.std.specs.List.{list_any}
use Rattle.std.proofs.lemmas.Bool.{cond_both, false≢true, or_parts}
use Rattle.std.proofs.lemmas.List.Concat.{flat_map-append}
use Rattle.std.proofs.lemmas.List.Elements.{recursion_from_All}
use Rattle.indicatif_text.specs.Columns.{Cell}
use Rattle.indicatif_term.specs.Screen.{Screen}
use Rattle.indicatif_term.specs.Terminal.{Terminal, after}
use Rattle.indicatif_term.specs.Calls.{Told, State as Holding, Bytes, Nothing, is_told, TermView}
use Rattle.indicatif_term.specs.Lists.{Lists}
use Rattle.indicatif_term.specs.Shows.{Rests, Placed, safe_rows}
use Rattle.indicatif_term.specs.Resizes.{resized, resized_terminal, resized_lists, recut, recut_all, told_resized}
use Rattle.indicatif_term.specs.Events.{Event, Given, Sized, terminal_after, told_after, RowsLastThrough, rows_then}
use Rattle.indicatif_term.specs.Engines.{Paints}
use Rattle.indicatif_term.specs.Calm.{Calmly}
use Rattle.indicatif_term.proofs.CalmLemmas.{no_drawings, drawings_append}
use Rattle.indicatif_term.proofs.CallTurnLemmas.{still_tells}
use Rattle.indicatif_term.proofs.PlaceLemmas.{stay_fewer}
use Rattle.indicatif_term.proofs.ResizeLemmas.{resized_rests, above_resized, still_failed, forgotten_stay}
use Rattle.indicatif_term.proofs.StandLemmas.{shows_placed, sized_place}
use Rattle.indicatif_term.proofs.StandingRowLemmas.{rows_taken, rows_placed, rows_safe}
use Rattle.indicatif_term.proofs.RowReadingLemmas.{shown_is_read}
use Rattle.indicatif_bar.specs.Machines.{Target, target_of, Machine}
use Rattle.indicatif_bar.specs.Runs.{broke, is_undisturbed}
use Rattle.indicatif_bar.specs.Scripts.{SizedOn, sized_target, sized_lists, Sizing, ScriptPart, Called, Size, opening_then, rows_sized, rows_cut, bytes_given, MaySize, sized, Plays, script_broke, AllRunsPlain, AllSizesKnown, GoesBy, RowsLastIn, ScriptsCarry, SafeRowsLast, ScriptsAreRead, UnbrokenScriptsAreRead, played, OneScriptOutcome}
use Rattle.indicatif_bar.proofs.SoundRunLemmas.{Sound, GoesSoundly, runs_soundly}
use Rattle.indicatif_bar.proofs.RunLemmas.{lasts, run_target_stays, runs_once}

-- ---- what is known of a terminal between two parts

-- its place, and unless a call was broken off, that it rests after an opening
abbrev Known : Bool → ℕ → ℕ → Lists → Terminal → Type 0
Known true w h l t = Placed w h l t
Known false w h l t = Placed w h l t × (opening : Screen) × Rests w h opening l t

placed_known : (broken : Bool) (w h : ℕ) (l : Lists) (t : Terminal) → Known broken w h l t → Placed w h l t
placed_known true w h l t k = k
placed_known false w h l t k = k.0

known_at_rest : (w h : ℕ) (opening : Screen) (l : Lists) (t : Terminal) → IsFalse l.failed → Rests w h opening l t → Known false w h l t
known_at_rest w h opening l t sound r = ((shows_placed w h opening l t sound (r.shows sound)).0, opening, r)

-- a painting
module _ (v v' : TermView) (b : Bool) (l l' : Lists) (p : Paints v v' b l l') (t : Terminal) where
  known_then : (broken : Bool) → Known broken v.columns v.rows l t → Known (broken || b) v'.columns v'.rows l' (after t p.bytes)
  known_then true k = (p.places t k).0
  known_then false k = elim b as (λ x. b ≡ x → Known x v'.columns v'.rows l' (after t p.bytes)) [
    | true ↦ λ e. (p.places t k.0).0
    | false ↦ λ e. ((p.places t k.0).0, k.1, p.rests e k.1 t k.2)
  ] refl

at_size : (broken : Bool) (a b c d : ℕ) (l : Lists) (t : Terminal) → a ≡ c → b ≡ d → Known broken a b l t → Known broken c d l t
at_size broken a b c d l t e f k = subst (λ x. Known broken x d l t) e (subst (λ x. Known broken a x l t) f k)

rests_at_size : (a b c d : ℕ) (opening : Screen) (l : Lists) (t : Terminal) → a ≡ c → b ≡ d → Rests a b opening l t → Rests c d opening l t
rests_at_size a b c d opening l t e f r = subst (λ x. Rests x d opening l t) e (subst (λ x. Rests a x opening l t) f r)

-- a size
known_sized : (broken : Bool) (w h w' h' n : ℕ) (l : Lists) (t : Terminal) → 0 < w → 0 < h' → MaySize broken l → n ≤ safe_rows l t → Known broken w h l t →
    let l' = resized_lists w h w' h' l in
    let t' = resized_terminal w' h' t in
    Known broken w' h' l' t' × (length (rows_then w' h' n t.screen) ≤ safe_rows l' t')
known_sized true w h w' h' n l t some some' may few k =
    let t' = resized_terminal w' h' t in
    subst (λ q. Placed w' h' q t' × (length (rows_then w' h' n t.screen) ≤ safe_rows q t')) (sym (ap (resized_lists w h w' h') may ∙ forgotten_stay w h w' h' some'))
    (rows_placed w h w' h' n t some' (subst (λ q. n ≤ safe_rows q t) may few) (subst (λ q. Placed w h q t) may k))
known_sized false w h w' h' n l t some some' may few k =
    let opening = k.1 in
    let l' = resized_lists w h w' h' l in
    let t' = resized_terminal w' h' t in
    let sound : l'.failed ≡ false = still_failed w h w' h' l ∙ may in
    let r = resized_rests w h w' h' opening l t k.2 may some some' in
    let x = k.2.shows may in
    let cut = rows_safe w h w' h' n opening l t x some some' (omega (arith, few, (shows_placed w h opening l t may x).1)) in
    let there = shows_placed w' h' (resized w' h' opening) l' t' sound (r.shows sound) in
    ((there.0, resized w' h' opening, r), omega (arith, cut, there.1))

still_sized : (w h : ℕ) (told : Told) → IsTrue (is_told told) → IsTrue (is_told (told_resized w h told))
still_sized w h (Holding t) e = refl
still_sized w h (Bytes old) e = refl
still_sized w h Nothing e = e

-- ---- rows above

sized_append : (w h w' h' : ℕ) (xs ys : List (List Cell)) → rows_sized w h w' h' (xs ++ ys) ≡ rows_sized w h w' h' xs ++ rows_sized w h w' h' ys
sized_append w h w' h' xs ys =
    elim ((w == w') && (h == h')) as (λ b. (if b then xs ++ ys else recut_all w' (xs ++ ys)) ≡ (if b then xs else recut_all w' xs) ++ (if b then ys else recut_all w' ys)) [
      | true ↦ refl
      | false ↦ flat_map-append (recut w') xs ys
    ]

-- a size cuts the rows above, and may add more
above_sized : (w h w' h' : ℕ) (l : Lists) → 0 < h' → (rows : List (List Cell)) × ((resized_lists w h w' h' l).above ≡ rows_sized w h w' h' l.above ++ rows)
unfolding resized_lists
above_sized w h w' h' l some =
    elim ((w == w') && (h == h')) as (λ b. ((w == w') && (h == h')) ≡ b →
    (rows : List (List Cell)) × ((resized_lists w h w' h' l).above ≡ (if b then l.above else recut_all w' l.above) ++ rows)) [
      | true ↦ λ e. ([], rw e (sym (append-nil l.above)))
      | false ↦ λ e. above_resized w h w' h' l e some
    ] refl

module _ {C A : Type 0} where
  cut_append : (parts : List (ScriptPart C A)) (w h : ℕ) (xs ys : List (List Cell)) → rows_cut parts w h (xs ++ ys) ≡ rows_cut parts w h xs ++ rows_cut parts w h ys
  cut_append [] w h xs ys = refl
  cut_append (Called calls answers ∷ parts) w h xs ys = cut_append parts w h xs ys
  cut_append (Size w' h' ∷ parts) w h xs ys =
      ap (rows_cut parts w' h') (sized_append w h w' h' xs ys) ∙ cut_append parts w' h' (rows_sized w h w' h' xs) (rows_sized w h w' h' ys)

  -- rows added by one part, and by those after it
  added_then : (parts : List (ScriptPart C A)) (a b w h : ℕ) (old mid new more others : List (List Cell)) → a ≡ w → b ≡ h → mid ≡ old ++ more → new ≡ rows_cut parts a b mid ++ others →
      new ≡ rows_cut parts w h old ++ (rows_cut parts w h more ++ others)
  added_then parts a b w h old mid new more others e f g i =
      i
      ∙ ap (λ q. rows_cut parts q b mid ++ others) e
      ∙ ap (λ q. rows_cut parts w q mid ++ others) f
      ∙ ap (λ q. rows_cut parts w h q ++ others) g
      ∙ ap (λ q. q ++ others) (cut_append parts w h old more)
      ∙ append_assoc (rows_cut parts w h old) (rows_cut parts w h more) others

-- ---- a script

module _ {S C A : Type 0} (m : Machine S C A) (z : Sizing m) where
  -- what a script carries, from a terminal of which so much is known
  record CarriesFrom (broken : Bool) (parts : List (ScriptPart C A)) (v v' : TermView) (s : S) (new : Option TermView) (next : S) (old : Option TermView)
      (plays : Plays m z parts old s new next) : Type 0 where
    events : List Event
    told_is : IsTrue (is_told v.told) → v'.told ≡ told_after v.told events
    goes_by : GoesBy m z parts old s new next plays events
    first_last : (n : ℕ) (t : Terminal) → n ≤ safe_rows (m.lists s) t → Known broken v.columns v.rows (m.lists s) t → RowsLastThrough n t events
    lasts : (t : Terminal) → Known broken v.columns v.rows (m.lists s) t → RowsLastIn m z parts old s new next plays t events
    rests : IsFalse broken → IsFalse (script_broke m z parts) → (opening : Screen) (t : Terminal) → Rests v.columns v.rows opening (m.lists s) t →
        Rests v'.columns v'.rows (opening_then parts opening) (m.lists next) (terminal_after t events)
    added : IsFalse (script_broke m z parts) → (rows : List (List Cell)) × ((m.lists next).above ≡ rows_cut parts v.columns v.rows (m.lists s).above ++ rows)
    drawings : Calmly (m.lists s).failed (bytes_given events) (m.lists next).failed

  -- what is claimed of the rest of a script
  abbrev Left : Bool → (parts : List (ScriptPart C A)) (v : TermView) (s : S) (new : Option TermView) (next : S) → Option TermView → Type 0
  Left broken parts v s new next old =
      (plays : Plays m z parts old s new next) → AllRunsPlain m z parts old s new next plays → AllSizesKnown m z broken parts old s new next plays →
      (v' : TermView) × (new ≡ Some v') × CarriesFrom broken parts v v' s new next old plays

  carried : (broken : Bool) (parts : List (ScriptPart C A)) (v : TermView) (s : S) (new : Option TermView) (next : S) → 0 < v.columns → Left broken parts v s new next (Some v)
  carried broken [] v s new next some plays plain known = (
    v,
    plays.0,
    record {
      events = [];
      told_is = λ h. refl;
      goes_by = refl;
      first_last = λ n t few k. tt;
      lasts = λ t k. refl;
      rests = λ fine whole opening t r. subst (λ x. Rests v.columns v.rows opening (m.lists x) t) (sym plays.1) r;
      added = λ whole. ([], ap (λ x. (m.lists x).above) plays.1 ∙ sym (append-nil (m.lists s).above));
      drawings = subst (λ x. Calmly (m.lists s).failed [] (m.lists x).failed) (sym plays.1) (no_drawings (m.lists s).failed);
    },
  )
  carried broken (Called calls answers ∷ parts) v s new next some plays plain known =
      let l = m.lists s in
      let x = plays.1 in
      let b = list_any (broke m) answers in
      let first = lasts m calls answers v s plays.0 x plays.2 plain.0 in
      let u = first.0 in
      let p = first.2 in
      let target : target_of (Some u) ≡ target_of (Some v) = ap target_of (sym first.1) ∙ run_target_stays m calls answers (Some v) s plays.0 x plays.2 in
      let columns : u.columns ≡ v.columns = ap (λ o. o.columns) target in
      let rows : u.rows ≡ v.rows = ap (λ o. o.rows) target in
      let later : Left (broken || b) parts u x new next (Some u) = λ q r k. carried (broken || b) parts u x new next (omega (arith, some, columns)) q r k in
      let rest = subst (Left (broken || b) parts u x new next) (sym first.1) later plays.3 plain.1 known in
      let c = rest.2 in
      let last : (n : ℕ) (t : Terminal) → n ≤ safe_rows l t → Known broken v.columns v.rows l t → RowsLastThrough n t (Given p.bytes ∷ c.events) = λ n t few k.
      let placed = placed_known broken v.columns v.rows l t k in (
        stay_fewer n (safe_rows l t) t p.bytes few (p.stays t placed),
        c.first_last n (after t p.bytes) (omega (arith, few, (p.places t placed).1)) (known_then v u b l (m.lists x) p t broken k),
      ) in (
        rest.0,
        rest.1,
        record {
          events = Given p.bytes ∷ c.events;
          told_is = λ h.
              let e = p.told_is h in
              c.told_is (subst (λ q. IsTrue (is_told q)) (sym e) (still_tells v.told p.bytes h)) ∙ ap (λ q. told_after q c.events) e;
          goes_by = (p.bytes, c.events, refl, (u, first.1, p.told_is), c.goes_by);
          first_last = last;
          lasts = λ t k. (
            last (safe_rows l t) t (omega arith) k,
            p.bytes,
            c.events,
            refl,
            first.3 t (placed_known broken v.columns v.rows l t k),
            c.lasts (after t p.bytes) (known_then v u b l (m.lists x) p t broken k),
          );
          rests = λ fine whole opening t r.
              let parted = or_parts b (script_broke m z parts) whole in
              c.rests (ap (λ q. q || b) fine ∙ parted.0) parted.1 opening (after t p.bytes) (p.rests parted.0 opening t r);
          added = λ whole.
              let parted = or_parts b (script_broke m z parts) whole in
              let now = p.added parted.0 in
              let more = c.added parted.1 in (
                rows_cut parts v.columns v.rows now.0 ++ more.0,
                added_then parts u.columns u.rows v.columns v.rows l.above (m.lists x).above (m.lists next).above now.0 more.0 columns rows now.1 more.1,
              );
          drawings = drawings_append l.failed p.bytes (m.lists x).failed (bytes_given c.events) (m.lists next).failed p.drawings c.drawings;
        },
      )
  carried broken (Size w h ∷ parts) v s new next some plays plain known =
      let target = target_of (Some v) in
      let x = sized m z w h target s in
      let y = plays.1 in
      let u = y.0 in
      let is = y.2 in
      let later : Left broken parts u x new next (Some u) = λ q r k. carried broken parts u x new next (omega (arith, plays.2, is.columns_are)) q r k in
      let rest = subst (Left broken parts u x new next) (sym y.1) later plays.4 plain known.1 in
      let c = rest.2 in
      let l = m.lists s in
      let l' = resized_lists v.columns v.rows w h l in
      let lists : m.lists x ≡ l' = z.lists_are l' s in
      let at_it : (n : ℕ) (t : Terminal) → n ≤ safe_rows l t → Known broken v.columns v.rows l t →
      Known broken u.columns u.rows (m.lists x) (resized_terminal w h t) × (length (rows_then w h n t.screen) ≤ safe_rows (m.lists x) (resized_terminal w h t)) = λ n t few k.
      let t' = resized_terminal w h t in
      let there = known_sized broken v.columns v.rows w h n l t some plays.3 known.0 few k in
      subst (λ q. Known broken u.columns u.rows q t' × (length (rows_then w h n t.screen) ≤ safe_rows q t')) (sym lists)
      (at_size broken w h u.columns u.rows l' t' (sym is.columns_are) (sym is.rows_are) there.0, there.1) in
      let last : (n : ℕ) (t : Terminal) → n ≤ safe_rows l t → Known broken v.columns v.rows l t → RowsLastThrough n t (Sized w h ∷ c.events) = λ n t few k.
      let there = at_it n t few k in (
        rows_taken w h n t (sized_place (placed_known broken v.columns v.rows l t k)).inside.in_rows,
        c.first_last (length (rows_then w h n t.screen)) (resized_terminal w h t) there.1 there.0,
      ) in (
        rest.0,
        rest.1,
        record {
          events = Sized w h ∷ c.events;
          told_is = λ q.
              let e = is.told_is q in
              c.told_is (subst (λ k. IsTrue (is_told k)) (sym e) (still_sized w h v.told q)) ∙ ap (λ k. told_after k c.events) e;
          goes_by = (c.events, refl, c.goes_by);
          first_last = last;
          lasts = λ t k.
              let n = safe_rows l t in
              let there = at_it n t (omega arith) k in
              (last n t (omega arith) k, c.events, refl, there.1, c.lasts (resized_terminal w h t) there.0);
          rests = λ fine whole opening t r.
              let may = subst (λ q. MaySize q l) fine known.0 in
              c.rests fine whole (resized w h opening) (resized_terminal w h t)
              (subst (λ q. Rests u.columns u.rows (resized w h opening) q (resized_terminal w h t)) (sym lists)
              (rests_at_size w h u.columns u.rows (resized w h opening) l' (resized_terminal w h t) (sym is.columns_are) (sym is.rows_are)
              (resized_rests v.columns v.rows w h opening l t r may some plays.3)));
          added = λ whole.
              let now = above_sized v.columns v.rows w h l plays.3 in
              let more = c.added whole in (
                rows_cut parts w h now.0 ++ more.0,
                added_then parts u.columns u.rows w h (rows_sized v.columns v.rows w h l.above) (m.lists x).above (m.lists next).above now.0 more.0 is.columns_are is.rows_are
                    (ap (λ q. q.above) lists ∙ now.1) more.1,
              );
          drawings = subst (λ b. Calmly b (bytes_given c.events) (m.lists next).failed) (ap (λ q. q.failed) lists ∙ still_failed v.columns v.rows w h l) c.drawings;
        },
      )

  pub scripts_carry : ScriptsCarry m z
  scripts_carry parts v s new next plays some sound plain known =
      let l = m.lists s in
      let r = carried false parts v s new next some plays plain known in
      let c = r.2 in (
        r.0,
        r.1,
        record {
          events = c.events;
          told_is = c.told_is;
          goes_by = c.goes_by;
          lasts = λ opening t k. c.lasts t (known_at_rest v.columns v.rows opening l t sound k);
          rests = λ whole opening t k. c.rests refl whole opening t k;
          added = c.added;
          drawings = c.drawings;
        },
      )

  -- a script that begins after a failure
  pub safe_rows_last : SafeRowsLast m z
  safe_rows_last parts v s new next plays some plain known =
      let r = carried true parts v s new next some plays plain known in
      let c = r.2 in
      (r.0, r.1, c.events, c.told_is, c.goes_by, c.drawings, c.lasts)

  -- a terminal that tells its state tells it after events
  told_state : (t : Terminal) (events : List Event) → told_after (Holding t) events ≡ Holding (terminal_after t events)
  told_state t [] = refl
  told_state t (Given bytes ∷ events) = told_state (after t bytes) events
  told_state t (Sized w h ∷ events) = told_state (resized_terminal w h t) events

  pub scripts_read : ScriptsAreRead m z
  scripts_read parts v s new next plays some sound sound' whole plain known = λ opening starts.
      let r = carried false parts v s new next some plays plain known in
      let v' = r.0 in
      let c = r.2 in
      let t = starts.0 in
      let last = terminal_after t c.events in
      let rest = c.rests refl whole opening t (record { shows = λ _. starts.2; leads = λ e. absurd (false≢true (sym sound ∙ e)) }) in
      let read = shown_is_read v'.columns v'.rows (opening_then parts opening) (m.lists next) last (rest.shows sound') in (
        v',
        r.1,
        (last, c.told_is (rw starts.1 refl) ∙ ap (λ x. told_after x c.events) starts.1 ∙ told_state t c.events, read.0, read.1),
      )

  -- where rows are forgotten only as a call is broken off
  module _ (goes : (target : Target) (call : C) (now : ℕ) (s : S) → GoesSoundly m s (m.deed target call now s)) where
    sized_soundly : (w h : ℕ) (target : Target) (s : S) → Sound m s → Sound m (sized m z w h target s)
    sized_soundly w h target s sound =
        ap (λ l. l.failed) (z.lists_are (sized_lists w h target (m.lists s)) s)
        ∙ cond_both target.hidden (m.lists s) (resized_lists target.columns target.rows w h (m.lists s)) (λ l. l.failed ≡ false)
        (λ e. sound) (λ e. still_failed target.columns target.rows w h (m.lists s) ∙ sound)

    known_soundly : (parts : List (ScriptPart C A)) (old : Option TermView) (s : S) (new : Option TermView) (next : S) (plays : Plays m z parts old s new next) →
        script_broke m z parts ≡ false → Sound m s → AllSizesKnown m z false parts old s new next plays × Sound m next
    known_soundly [] old s new next plays whole sound = (tt, ap (λ x. (m.lists x).failed) plays.1 ∙ sound)
    known_soundly (Called calls answers ∷ parts) old s new next plays whole sound =
        let b = list_any (broke m) answers in
        let parted = or_parts b (script_broke m z parts) whole in
        let x = plays.1 in
        let rest = known_soundly parts plays.0 x new next plays.3 parted.1 (runs_soundly m goes calls answers old s plays.0 x plays.2 parted.0 sound) in
        (subst (λ q. AllSizesKnown m z q parts plays.0 x new next plays.3) (sym parted.0) rest.0, rest.1)
    known_soundly (Size w h ∷ parts) old s new next plays whole sound =
        let rest = known_soundly parts plays.0 (sized m z w h (target_of old) s) new next plays.4 whole (sized_soundly w h (target_of old) s sound) in
        ((sound, rest.0), rest.1)

    pub unbroken_read : UnbrokenScriptsAreRead m z
    unbroken_read parts v s new next plays some sound whole plain = λ opening starts.
        let k = known_soundly parts (Some v) s new next plays whole sound in
        scripts_read parts v s new next plays some sound k.1 whole plain k.0 opening starts

  -- ---- one outcome

  target_sized : (w h : ℕ) (old new : Option TermView) → SizedOn w h old new → target_of new ≡ sized_target w h (target_of old)
  target_sized w h None new is = ap target_of is
  target_sized w h (Some v) new is =
      let columns : is.0.columns ≡ w = is.2.columns_are in
      let rows : is.0.rows ≡ h = is.2.rows_are in
      ap target_of is.1 ∙ rw (columns, rows) refl

  pub script_once : OneScriptOutcome m z
  script_once [] old s new next plays fine = ap (λ n. ([], n)) (sym plays.1)
  script_once (Called calls answers ∷ parts) old s new next plays fine =
      let x = plays.1 in
      let made = runs_once m calls answers old s plays.0 x plays.2 (recursion_from_All (λ answer. is_undisturbed (m.tells answer) ≡ true) answers fine.0) in
      let others = script_once parts plays.0 x new next plays.3 fine.1 in
      let same : played m z (target_of old) parts x ≡ (parts, next) =
      ap (λ t. played m z t parts x) (sym (run_target_stays m calls answers old s plays.0 x plays.2)) ∙ others in
      ap (λ o. (Called calls o.0 ∷ (played m z (target_of old) parts o.1).0, (played m z (target_of old) parts o.1).1)) made
      ∙ ap (λ o. (Called calls answers ∷ o.0, o.1)) same
  script_once (Size w h ∷ parts) old s new next plays fine =
      let x = sized m z w h (target_of old) s in
      let others = script_once parts plays.0 x new next plays.4 fine in
      let same : played m z (sized_target w h (target_of old)) parts x ≡ (parts, next) =
      ap (λ t. played m z t parts x) (sym (target_sized w h old plays.0 plays.1)) ∙ others in
      ap (λ o. (Size w h ∷ o.0, o.1)) same
