-- The order of a board's bars through whole runs: each bar stands there once, one that is gone stays so, and numbers are counted up.
use Rattle.std.proofs.Common.{◌≡◌, ◌⊎◌, ℕ, zero, suc, ◌+◌, ◌<◌, ◌≤◌, Bool, true, false, List, [], ◌∷◌, map, drop, length, refl, sym, ◌∙◌, ap, subst, arith, Option, Some, None, inl, inr, if◌then◌else◌}
use Rattle.std.specs.Prelude.{◌^◌, not, ◌==◌}
use Rattle.std.specs.List.{insert, remove, range_with_len}
use Rattle.std.proofs.lemmas.Bool.{cases_lt, cond_both}
use Rattle.indicatif_text.specs.declared.refusal.Refusal.{Refusal}
use Rattle.indicatif_text.specs.declared.refusal.Refusal.TheVariants.{Memory}
use Rattle.indicatif_term.specs.Lines.{text_lines, logged_lines}
use Rattle.indicatif_term.specs.Limiters.{Limiter}
use Rattle.indicatif_term.specs.Lists.{fate}
use Rattle.indicatif_term.specs.declared.target.Keep.{Keep}
use Rattle.indicatif_term.specs.declared.target.Keep.TheVariants.{Absent, Passed, Behind}
use Rattle.indicatif_bar.specs.Machines.{Target, target_of, Deed, AtOnce, Leads}
use Rattle.indicatif_bar.specs.Kinds.{Writing, Frame, TextAndFrame, NoFrame}
use Rattle.indicatif_bar.specs.declared.ask.Ask.{Ask}
use Rattle.indicatif_bar.specs.declared.ask.Ask.TheVariants.{No, Forced}
use Rattle.indicatif_board.specs.Members.{Member, is_member, is_head, without, said_of, order_of, place_of, new_member, leaders, changed_at}
use Rattle.indicatif_board.specs.Boards.{BoardState, BoardKind, Call, Insert, Remove, Drop, Log, BarLog, Clear, Redraw, Align, Tell, Answer, Given, Refused, Id, Location, Entrant, New, Old, opening_board, turned_away, anchor_turned_away, or_refused, inserted, index_of, taken_in, taken_out, draws, draw_of, bar_changed, laid_out, layout_takes, left_by, left_on, ownerless_on, board}
use Rattle.indicatif_board.specs.Slots.{occurrences}
use Rattle.indicatif_board.specs.OrderLaws.{RunsPreserve, StandsOnce, HasLeft, with_new, new_bars, new_numbers, NumbersCount, NumbersAreNew}
use Rattle.indicatif_board.proofs.MemberLemmas.{place-changed, map-inserted, map-removed, drop-map}
use Rattle.indicatif_board.proofs.SlotLemmas.{ones_other, ones_most, occurrences-front, occurrences-inserted, occurrences-removed, occurrences-cut}
use Rattle.indicatif_bar.proofs.PreservingLemmas.{IsPreserved, leads_preserve}
use Rattle.indicatif_board.proofs.RunInvariantLemmas.{runs_preserve}

-- ---- what bars that come and go keep

-- what is so of an order and the next number is so with bars taken out
record Lasts (Q : List ℕ → ℕ → Type 0) : Type 0 where
  go : (order : List ℕ) (made at : ℕ) → Q order made → Q (remove order at) made
  go_first : (order : List ℕ) (made count : ℕ) → Q order made → Q (drop count order) made

module _ {B C : Type 0} (kind : BoardKind B C) (mark : ℕ) (Q : List ℕ → ℕ → Type 0) (lasts : Lasts Q) where
  abbrev P : BoardState B → Type 0
  P s = Q (order_of s.members) s.made

  abbrev PreservesIt : Deed (BoardState B) Answer → Type 0
  PreservesIt deed = IsPreserved (board kind mark) P deed

  unless_refused : (s : BoardState B) (refused : Option Refusal) (deed : Deed (BoardState B) Answer) → P s → PreservesIt deed → PreservesIt (or_refused refused deed s)
  unless_refused s None deed is keeps = keeps
  unless_refused s (Some e) deed is keeps = is

  either : (b : Bool) (one other : Deed (BoardState B) Answer) → PreservesIt one → PreservesIt other → PreservesIt (if b then one else other)
  either true one other a b = a
  either false one other a b = b

  -- members that changed, but not their numbers
  changed_keeps : (number : ℕ) (f : Member B → Member B) (s : BoardState B) → ((m : Member B) → (f m).number ≡ m.number) → P s → P (record s { members = changed_at number f s.members })
  changed_keeps number f s same is = subst (λ o. Q o s.made) (sym (place-changed number f s.members same)) is

  -- a call that takes a bar in keeps it too
  abbrev Comes : Call B C → BoardState B → Type 0
  Comes (Insert at (New bar)) s = P (taken_in at bar s)
  Comes _ s = Unit {0}

  without_keeps : (number : ℕ) (members : List (Member B)) (made : ℕ) → Q (order_of members) made → Q (order_of (without number members)) made
  without_keeps number members made is =
      let k = place_of number members in
      subst (λ o. Q o made) (map-removed (λ (m : Member B). m.number) members k) (lasts.go (order_of members) made k is)

  inserted_keeps : (s : BoardState B) (at : Location) (entrant : Entrant B) → P s → Comes (Insert at entrant) s → PreservesIt (inserted mark at entrant s)
  inserted_keeps s at (New bar) is comes = either (s.made == 2 ^ 64) _ _ is comes
  inserted_keeps s at (Old id) is comes = unless_refused s (turned_away mark id s) _ is is

  taken_out_keeps : (s : BoardState B) (number : ℕ) → P s → P (taken_out number s)
  taken_out_keeps s number is =
      cond_both (is_member number s.members) (record s { members = without number s.members }) s P (λ a. without_keeps number s.members s.made is) (λ a. is)

  ownerless_keeps : (number : ℕ) (s : BoardState B) → P s → P (ownerless_on number s)
  ownerless_keeps number s is = changed_keeps number (λ m. record m { dropped = true }) s (λ m. refl) is

  left_by_keeps : (target : Target) (number : ℕ) (keep : Keep) (s : BoardState B) → P s → P (left_by target number keep s)
  left_by_keeps target number Absent s is = without_keeps number s.members s.made is
  left_by_keeps target number Passed s is = without_keeps number s.members s.made is
  left_by_keeps target number Behind s is = ownerless_keeps number s is

  left_keeps : (target : Target) (number : ℕ) (s : BoardState B) → P s → P (left_on target number s)
  left_keeps target number s is =
      cond_both (is_head number s.members) (left_by target number (fate number s.lists) s) (ownerless_on number s) P (λ a. left_by_keeps target number (fate number s.lists) s is)
      (λ a. ownerless_keeps number s is)

  -- the dropped ones at the head leave
  written_keeps : (s : BoardState B) → P s → Q (order_of (drop (leaders s.members) s.members)) s.made
  written_keeps s is = subst (λ o. Q o s.made) (drop-map (λ (m : Member B). m.number) (leaders s.members) s.members) (lasts.go_first (order_of s.members) s.made (leaders s.members) is)

  only_draws : (target : Target) (takes : Bool) (ask : Ask) (now : ℕ) (writing : Writing) (after laid : BoardState B) (lays : Bool) → P after → P laid →
      PreservesIt (draws (draw_of target takes ask now writing after laid lays))
  only_draws target takes ask now writing after laid lays numbers ready = (numbers, ready, written_keeps laid ready, ready, (λ x is. is), λ x is. is)

  laid_keeps : (target : Target) (now number : ℕ) (s : BoardState B) → P s → P (laid_out kind target now number s)
  laid_keeps target now number s is = changed_keeps number _ s (λ m. refl) is

  told_keeps : (number : ℕ) (f : B → B) (s : BoardState B) → P s → P (bar_changed number f s)
  told_keeps number f s is = changed_keeps number (λ m. record m { bar = f m.bar }) s (λ m. refl) is

  deed_keeps : (target : Target) (call : Call B C) (now : ℕ) (s : BoardState B) → P s → Comes call s → PreservesIt ((board kind mark).deed target call now s)
  deed_keeps target (Insert at entrant) now s is comes = unless_refused s (anchor_turned_away mark at s) _ is (inserted_keeps s at entrant is comes)
  deed_keeps target (Remove id) now s is comes = either (not (id.mark == mark)) _ _ is (taken_out_keeps s id.number is)
  deed_keeps target (Drop id) now s is comes =
      let after = told_keeps id.number (kind.left now) s is in
      let laid = laid_keeps target now id.number (bar_changed id.number (kind.left now) s) after in
      unless_refused s (turned_away mark id s) _ is
      (after, laid, written_keeps (laid_out kind target now id.number (bar_changed id.number (kind.left now) s)) laid, laid, left_keeps target id.number, ownerless_keeps id.number)
  deed_keeps target (Log text) now s is comes = only_draws target false Forced now (TextAndFrame (text_lines (logged_lines text))) s s false is is
  deed_keeps target (BarLog id text) now s is comes =
      unless_refused s (turned_away mark id s) _ is
      (only_draws target false Forced now (TextAndFrame (text_lines (logged_lines text))) s (laid_out kind target now id.number s) (layout_takes kind id.number s) is
      (laid_keeps target now id.number s is))
  deed_keeps target Clear now s is comes = only_draws target false Forced now NoFrame s s false is is
  deed_keeps target Redraw now s is comes = only_draws target false Forced now Frame s s false is is
  deed_keeps target (Align bottom) now s is comes = is
  deed_keeps target (Tell id command) now s is comes =
      let after = bar_changed id.number (λ bar. (kind.bars.after command bar now).0) s in
      let numbers = told_keeps id.number (λ bar. (kind.bars.after command bar now).0) s is in
      unless_refused s (turned_away mark id s) _ is
      (unless_refused s (said_of None (λ bar. kind.bars.refused command bar now) id.number s.members) _ is
      (only_draws target (said_of false (λ bar. kind.bars.takes command bar now) id.number s.members) (said_of No (λ bar. (kind.bars.after command bar now).1) id.number s.members) now Frame after
      (laid_out kind target now id.number after) (layout_takes kind id.number after) numbers (laid_keeps target now id.number after numbers)))

  -- a run keeps what lasts also as the next bar is taken in anywhere
  module _ (come : (order : List ℕ) (made at : ℕ) → Q order made → Q (insert order at made) (made + 1)) where
    comes_of : (call : Call B C) (s : BoardState B) → P s → Comes call s
    comes_of (Insert at (New bar)) s is =
        let k = index_of at s.members in
        subst (λ o. Q o (s.made + 1)) (sym (map-inserted (λ (m : Member B). m.number) s.members k (new_member s.made bar))) (come (order_of s.members) s.made k is)
    comes_of (Insert at (Old id)) s is = tt
    comes_of (Remove id) s is = tt
    comes_of (Drop id) s is = tt
    comes_of (Log text) s is = tt
    comes_of (BarLog id text) s is = tt
    comes_of Clear s is = tt
    comes_of Redraw s is = tt
    comes_of (Align bottom) s is = tt
    comes_of (Tell id command) s is = tt

    order_kept : RunsPreserve (board kind mark) P
    order_kept = runs_preserve (board kind mark) P (λ target call now s is. deed_keeps target call now s is (comes_of call s is))

-- ---- each bar stands there once

record Once (order : List ℕ) (made : ℕ) : Type 0 where
  apart : (number : ℕ) → occurrences number order ≤ 1
  given : (number : ℕ) → made ≤ number → occurrences number order ≡ 0

once_comes : (order : List ℕ) (made at : ℕ) → Once order made → Once (insert order at made) (made + 1)
once_comes order made at is = record {
  apart = λ n. elim (cases_lt n made) [
    | inl old ↦ omega (arith, occurrences-inserted n at made order, ones_other n made (λ e. omega (arith, e, old)), is.apart n)
    | inr new ↦ omega (arith, occurrences-inserted n at made order, ones_most n made, is.given n new)
  ];
  given = λ n new. omega (arith, occurrences-inserted n at made order, ones_other n made (λ e. omega (arith, e, new)), is.given n (omega (arith, new)));
}

once_lasts : Lasts Once
once_lasts = record {
  go = λ order made at is. record {
    apart = λ n. omega (arith, occurrences-removed n at order, is.apart n);
    given = λ n new. omega (arith, occurrences-removed n at order, is.given n new);
  };
  go_first = λ order made count is. record {
    apart = λ n. omega (arith, occurrences-cut n count order, is.apart n);
    given = λ n new. omega (arith, occurrences-cut n count order, is.given n new);
  };
}

pub stands_at_first : {B : Type 0} (limiter : Option Limiter) → StandsOnce {B = B} (opening_board limiter)
stands_at_first limiter = record { apart = λ n. omega arith; given = λ n new. refl }

pub stands_kept : {B C : Type 0} (kind : BoardKind B C) (mark : ℕ) → RunsPreserve (board kind mark) StandsOnce
stands_kept kind mark calls answers old s new next run is =
    let after = order_kept kind mark Once once_lasts once_comes calls answers old s new next run (record { apart = is.apart; given = is.given }) in
    record { apart = after.apart; given = after.given }

-- ---- a bar that is gone stays so

record Gone (number : ℕ) (order : List ℕ) (made : ℕ) : Type 0 where
  was_given : number < made
  is_out : occurrences number order ≡ 0

gone_comes : (number : ℕ) (order : List ℕ) (made at : ℕ) → Gone number order made → Gone number (insert order at made) (made + 1)
gone_comes number order made at is = record {
  was_given = omega (arith, is.was_given);
  is_out = omega (arith, occurrences-inserted number at made order, ones_other number made (λ e. omega (arith, e, is.was_given)), is.is_out);
}

gone_lasts : (number : ℕ) → Lasts (Gone number)
gone_lasts number = record {
  go = λ order made at is. record { was_given = is.was_given; is_out = omega (arith, occurrences-removed number at order, is.is_out) };
  go_first = λ order made count is. record { was_given = is.was_given; is_out = omega (arith, occurrences-cut number count order, is.is_out) };
}

pub gone_kept : {B C : Type 0} (kind : BoardKind B C) (mark number : ℕ) → RunsPreserve (board kind mark) (HasLeft number)
gone_kept kind mark number calls answers old s new next run is =
    let after = order_kept kind mark (Gone number) (gone_lasts number) (gone_comes number) calls answers old s new next run (record { was_given = is.was_given; is_out = is.is_out }) in
    record { was_given = after.was_given; is_out = after.is_out }

-- ---- numbers are counted up

module _ {B C : Type 0} (kind : BoardKind B C) (mark : ℕ) where
  abbrev id_in : ℕ → Id
  id_in number = record { mark = mark; number = number }

  -- a call took no bar in; or it took one in by the next number
  abbrev CountsUp : Call B C → Answer → BoardState B → BoardState B → Type 0
  CountsUp call answer s next =
      (((others : List Id) → with_new call answer others ≡ others) × (next.made ≡ s.made))
      ⊎ (((others : List Id) → with_new call answer others ≡ id_in s.made ∷ others) × (next.made ≡ s.made + 1))

  -- a bar that is told, drawn or taken out leaves the next number as it is
  same_lasts : (made : ℕ) → Lasts (λ order k. k ≡ made)
  same_lasts made = record { go = λ order k at is. is; go_first = λ order k count is. is }

  module _ (target : Target) (now : ℕ) (s next : BoardState B) (answer : Answer) where
    same_made : (call : Call B C) → Comes kind mark (λ order k. k ≡ s.made) (same_lasts s.made) call s →
        Leads (board kind mark) target s ((board kind mark).deed target call now s) answer next →
        next.made ≡ s.made
    same_made call comes leads =
        leads_preserve (board kind mark) (λ x. x.made ≡ s.made) target s next ((board kind mark).deed target call now s) answer
        (deed_keeps kind mark (λ order k. k ≡ s.made) (same_lasts s.made) target call now s refl comes) leads refl

    module _ (at : Location) (bar : B) where
      abbrev CountsNew : Type 0
      CountsNew = CountsUp (Insert at (New bar)) answer s next

      not_new : (e : Refusal) → answer ≡ Refused e → next ≡ s → CountsNew
      not_new e said same = inl ((λ others. ap (λ a. with_new {C = C} (Insert at (New bar)) a others) said), ap (λ x. x.made) same)

      refused_counts : (takes : Bool) (e : Refusal) → Leads (board kind mark) target s (AtOnce takes (Refused e) s) answer next → CountsNew
      refused_counts takes e (inl made) = not_new e (ap (λ o. o.0) made) (ap (λ o. o.1) made)
      refused_counts takes e (inr short) = not_new Memory short.0 short.2

      given_counts : Leads (board kind mark) target s (AtOnce true (Given (id_in s.made)) (taken_in at bar s)) answer next → CountsNew
      given_counts (inl made) = inr ((λ others. ap (λ o. with_new {C = C} (Insert at (New bar)) o.0 others) made), ap (λ o. o.1.made) made)
      given_counts (inr short) = not_new Memory short.0 short.2

      new_counts : (refused : Option Refusal) → Leads (board kind mark) target s (or_refused refused (inserted mark at (New bar) s) s) answer next → CountsNew
      new_counts (Some e) leads = refused_counts false e leads
      new_counts None leads =
          cond_both (s.made == 2 ^ 64) (AtOnce true (Refused Memory) s) (AtOnce true (Given (id_in s.made)) (taken_in at bar s))
          (λ deed. Leads (board kind mark) target s deed answer next → CountsNew) (λ a. refused_counts true Memory) (λ a. given_counts) leads

    counts : (call : Call B C) → Leads (board kind mark) target s ((board kind mark).deed target call now s) answer next → CountsUp call answer s next
    counts (Insert at (New bar)) leads = new_counts at bar (anchor_turned_away mark at s) leads
    counts (Insert at (Old id)) leads = inl ((λ others. refl), same_made (Insert at (Old id)) tt leads)
    counts (Remove id) leads = inl ((λ others. refl), same_made (Remove id) tt leads)
    counts (Drop id) leads = inl ((λ others. refl), same_made (Drop id) tt leads)
    counts (Log text) leads = inl ((λ others. refl), same_made (Log text) tt leads)
    counts (BarLog id text) leads = inl ((λ others. refl), same_made (BarLog id text) tt leads)
    counts Clear leads = inl ((λ others. refl), same_made Clear tt leads)
    counts Redraw leads = inl ((λ others. refl), same_made Redraw tt leads)
    counts (Align bottom) leads = inl ((λ others. refl), same_made (Align bottom) tt leads)
    counts (Tell id command) leads = inl ((λ others. refl), same_made (Tell id command) tt leads)

  -- these bars are counted up from a number on, and then this is the next one
  abbrev CountedFrom : ℕ → List Id → ℕ → Type 0
  CountedFrom made ids next = (ids ≡ map id_in (range_with_len made (length ids))) × (next ≡ made + length ids)

  same_count : (ids others : List Id) (made made' next : ℕ) → ids ≡ others → made' ≡ made → CountedFrom made' others next → CountedFrom made ids next
  same_count ids others made made' next e f counted = subst (λ l. CountedFrom made l next) (sym e) (subst (λ k. CountedFrom k others next) f counted)

  one_more : (ids others : List Id) (made made' next : ℕ) → ids ≡ id_in made ∷ others → made' ≡ made + 1 → CountedFrom made' others next → CountedFrom made ids next
  one_more ids others made made' next e f counted =
      let c = subst (λ k. CountedFrom k others next) f counted in
      subst (λ l. CountedFrom made l next) (sym e) (ap (λ l. id_in made ∷ l) c.0, omega (arith, c.1))

  pub numbers_count : NumbersCount kind mark
  numbers_count [] [] old s new next run = (refl, omega (arith, ap (λ x. x.made) run.1))
  numbers_count (call ∷ calls) (answer ∷ answers) old s new next run =
      let rest = numbers_count calls answers run.0 run.1 new next run.3 in
      let others = new_bars calls answers in
      elim (counts (target_of old) call.1 s run.1 answer call.0 run.2.leads) [
        | inl none ↦ same_count (with_new call.0 answer others) others s.made run.1.made next.made (none.0 others) none.1 rest
        | inr one ↦ one_more (with_new call.0 answer others) others s.made run.1.made next.made (one.0 others) one.1 rest
      ]
  numbers_count [] (answer ∷ answers) old s new next run = absurd run
  numbers_count (call ∷ calls) [] old s new next run = absurd run

  numbers_of : (xs : List ℕ) → map (λ (id : Id). id.number) (map id_in xs) ≡ xs
  numbers_of [] = refl
  numbers_of (x ∷ xs) = ap (λ l. x ∷ l) (numbers_of xs)

  none_before : (n made count : ℕ) → n < made → occurrences n (range_with_len made count) ≡ 0
  none_before n made zero before = refl
  none_before n made (suc count) before =
      omega (arith, occurrences-front n made (range_with_len (made + 1) count), ones_other n made (λ e. omega (arith, e, before)), none_before n (made + 1) count (omega (arith, before)))

  once_at_most : (n made count : ℕ) → occurrences n (range_with_len made count) ≤ 1
  once_at_most n made zero = omega arith
  once_at_most n made (suc count) = elim (cases_lt made n) [
    | inl after ↦ omega (arith, occurrences-front n made (range_with_len (made + 1) count), ones_other n made (λ e. omega (arith, e, after)), once_at_most n (made + 1) count)
    | inr here ↦ omega (arith, occurrences-front n made (range_with_len (made + 1) count), ones_most n made, none_before n (made + 1) count (omega (arith, here)))
  ]

  pub numbers_new : NumbersAreNew kind mark
  numbers_new calls answers old s new next run number =
      let counted = numbers_count calls answers old s new next run in
      let count = length (new_bars calls answers) in
      let numbers : new_numbers calls answers ≡ range_with_len s.made count = ap (map (λ (id : Id). id.number)) counted.0 ∙ numbers_of (range_with_len s.made count) in (
        subst (λ l. occurrences number l ≤ 1) (sym numbers) (once_at_most number s.made count),
        λ before. ap (occurrences number) numbers ∙ none_before number s.made count before,
      )
