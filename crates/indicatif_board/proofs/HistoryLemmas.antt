-- What a board's calls and answers say of its rows: those above are only added, and a text's rows are there once it was logged.
use Rattle.std.proofs.Common.{◌≡◌, ℕ, zero, suc, Bool, true, false, List, [], ◌∷◌, ◌++◌, ◌-◌, max, length, take, drop, flat_map, refl, sym, ◌∙◌, ap, subst, append_assoc, append-nil, Result, Ok, Err, Option, Some, None, inl, inr, if◌then◌else◌}
use Rattle.std.specs.Prelude.{◌^◌, not, ◌==◌}
use Rattle.std.specs.List.{list_any}
use Rattle.std.proofs.lemmas.Bool.{cond_both, false≢true, or_parts}
use Rattle.std.proofs.lemmas.List.Elements.{All-from_recursion}
use Rattle.indicatif_text.specs.Columns.{Cell, rows_of}
use Rattle.indicatif_text.specs.declared.refusal.Refusal.{Refusal}
use Rattle.indicatif_text.specs.declared.refusal.Refusal.TheVariants.{NoColumns, TooWide, Terminal as Failure}
use Rattle.indicatif_text.specs.declared.refusal.Drawn.{Drawn}
use Rattle.indicatif_text.specs.declared.refusal.Drawn.TheVariants.{Yes, Limited, Hidden}
use Rattle.indicatif_term.specs.Calls.{TermView}
use Rattle.indicatif_term.specs.Engines.{is_failure}
use Rattle.indicatif_term.specs.Lines.{some_wide, text_lines, logged_lines}
use Rattle.indicatif_term.specs.Lists.{Lists, BarLines, drawn, logged, cleared, passed, fate, kept_of, is_first, live_of_frame, live_height, lists_height, shown_rows}
use Rattle.indicatif_term.specs.declared.target.Keep.{Keep}
use Rattle.indicatif_term.specs.declared.target.Keep.TheVariants.{Absent, Passed, Behind}
use Rattle.indicatif_bar.specs.Commands.{BarRecord, Command}
use Rattle.indicatif_bar.specs.Machines.{Target, target_of, Machine, Draw, Deed, AtOnce, Draws, Leads, is_no, drawn_by, outcomes}
use Rattle.indicatif_bar.specs.Kinds.{Writing, Frame, TextAndFrame, NoFrame, written_lists}
use Rattle.indicatif_bar.specs.Runs.{CallMade, Runs, broke}
use Rattle.indicatif_bar.specs.Trackers.{Tracking}
use Rattle.indicatif_bar.specs.declared.ask.Ask.{Ask}
use Rattle.indicatif_bar.specs.declared.ask.Ask.TheVariants.{No, Forced}
use Rattle.indicatif_bar.proofs.BoundLemmas.{runs_bounded}
use Rattle.indicatif_bar.proofs.RunLemmas.{one_outcome}
use Rattle.indicatif_bar.proofs.SoundRunLemmas.{drawn_keeps}
use Rattle.indicatif_board.specs.BoardBars.{board_bars}
use Rattle.indicatif_board.specs.Boards.{BoardState, BoardKind, Call, Insert, Remove, Drop, Log, BarLog, Clear, Redraw, Align, Tell, Answer, Drew, drawn_of, says, Location, Entrant, New, Old, turned_away, anchor_turned_away, or_refused, inserted, taken_out, draws, draw_of, log_of, laid_out, layout_takes, bar_changed, left_by, left_on, ownerless_on, opening_board, board}
use Rattle.indicatif_board.specs.HistoryLaws.{AboveOnlyGrows, text_of, AreUnbroken, FollowsFromItsCalls, HasBoundedDraws, LoggedRowsStand, IsReadAsItsRun}
use Rattle.indicatif_board.specs.Members.{is_member, is_head, without, said_of, leaders, frame_of}
use Rattle.indicatif_board.specs.Recorded.{BoardStep, calls_of, answers_of}
use Rattle.indicatif_board.proofs.BoardRunLemmas.{board_read_after}
use Rattle.indicatif_board.proofs.BoundLemmas.{board_limited}
use Rattle.indicatif_board.proofs.PlainBoardLemmas.{board_runs_are_plain}
use Rattle.indicatif_board.specs.PlainBoardLaws.{IsPlainMember}

-- ---- what holds after each call that the terminal doesn't break off

module _ {S C A : Type 0} (m : Machine S C A) (P : S → Type 0) where
  -- it is so in each state that such a call may lead to
  abbrev Keeps : Deed S A → Type 0
  Keeps (AtOnce takes answer next) = P next
  Keeps (Draws d ends breaks) = P d.after_command × P d.ready × P d.written × ((x : S) → P x → P (ends x)) × ((x : S) → P x → P (breaks x))

  call_keeps : (target : Target) (s next : S) (deed : Deed S A) (answer : A) → Keeps deed → Leads m target s deed answer next → is_failure (m.tells answer) ≡ false → P s → P next
  call_keeps target s next (AtOnce takes said after) answer keeps (inl made) fine is = subst P (sym (ap (λ o. o.1) made)) keeps
  call_keeps target s next (AtOnce takes said after) answer keeps (inr short) fine is = subst P (sym short.2) is
  call_keeps target s next (Draws d ends breaks) answer keeps (inl made) fine is =
      subst P (sym (ap (λ o. o.1) made)) (keeps.3 (drawn_by target d).1 (drawn_keeps P target d keeps.0 keeps.1 keeps.2))
  call_keeps target s next (Draws d ends breaks) answer keeps (inr (inl short)) fine is = elim short.1 [
    | inl text ↦ subst P (sym text.1) (keeps.4 s is)
    | inr shown ↦ elim shown.1 [
      | inl lines ↦ subst P (sym lines.1) (keeps.4 d.after_command keeps.0)
      | inr rows ↦ subst P (sym rows.2) (keeps.4 d.ready keeps.1)
    ]
  ]
  call_keeps target s next (Draws d ends breaks) answer keeps (inr (inr broken)) fine is =
      absurd (false≢true (sym fine ∙ ap (λ a. is_failure (m.tells a)) broken.1 ∙ ap is_failure (m.tells_said (Err (Failure broken.0)))))

  run_keeps : (keeps : (target : Target) (call : C) (now : ℕ) (s : S) → P s → Keeps (m.deed target call now s)) (calls : List (C × ℕ)) (answers : List A) (old : Option TermView) (s : S)
      (new : Option TermView) (next : S) → Runs m calls answers old s new next → list_any (broke m) answers ≡ false → P s → P next
  run_keeps keeps [] [] old s new next run fine is = subst P (sym run.1) is
  run_keeps keeps (call ∷ calls) (answer ∷ answers) old s new next run fine is =
      let p = or_parts (broke m answer) (list_any (broke m) answers) fine in
      run_keeps keeps calls answers run.0 run.1 new next run.3 p.1
      (call_keeps (target_of old) s run.1 (m.deed (target_of old) call.0 call.1 s) answer (keeps (target_of old) call.0 call.1 s is) run.2.leads p.0 is)
  run_keeps keeps [] (answer ∷ answers) old s new next run fine is = absurd run
  run_keeps keeps (call ∷ calls) [] old s new next run fine is = absurd run

-- ---- rows above

-- rows that begin with these
abbrev pub Begin : List (List Cell) → List (List Cell) → Type 0
Begin first rows = (more : List (List Cell)) × (rows ≡ first ++ more)

begin_more : (first rows more : List (List Cell)) → Begin first rows → Begin first (rows ++ more)
begin_more first rows more b = (b.0 ++ more, ap (λ x. x ++ more) b.1 ∙ append_assoc first b.0 more)

passed_above : (w n : ℕ) (l : Lists) → (passed w n l).above ≡ l.above
passed_above w zero l = refl
passed_above w (suc n) l = refl

kept_above : (w bar : ℕ) (l : Lists) → (kept_of w bar l).above ≡ l.above
unfolding kept_of
kept_above w bar l = cond_both (is_first bar l.live.segments) (passed w 1 l) l (λ k. k.above ≡ l.above) (λ a. refl) (λ a. refl)

drawn_above : (w h : ℕ) (bottom : Bool) (gone : ℕ) (frame : List BarLines) (l : Lists) → Begin l.above (drawn w h bottom gone frame l).above
unfolding drawn
drawn_above w h bottom gone frame l =
    let before = record l { live = live_of_frame w h bottom (live_height l.live) 0 frame } in
    let n = length (shown_rows w h (take gone frame)) in
    let x = passed w n before in
    let more = take ((max x.reach (lists_height x) - h) - length x.above) x.kept in
    (more, ap (λ a. a ++ more) (passed_above w n before))

logged_above : (w h : ℕ) (bottom : Bool) (text : List (List ℕ)) (frame : List BarLines) (l : Lists) → Begin (l.above ++ flat_map (rows_of w) text) (logged w h bottom text frame l).above
unfolding logged
logged_above w h bottom text frame l = (_, refl)

cleared_above : (l : Lists) → (cleared l).above ≡ l.above
unfolding cleared
cleared_above l = refl

written_above : (writing : Writing) (target : Target) (bottom : Bool) (gone : ℕ) (frame : List BarLines) (first : List (List Cell)) (l : Lists) → Begin first l.above →
    Begin first (written_lists writing target bottom gone frame l).above
written_above Frame target bottom gone frame first l b =
    let d = drawn_above target.columns target.rows bottom gone frame l in
    subst (Begin first) (sym d.1) (begin_more first l.above d.0 b)
written_above (TextAndFrame text) target bottom gone frame first l b =
    let d = logged_above target.columns target.rows bottom text (drop gone frame) l in
    subst (Begin first) (sym d.1) (begin_more first (l.above ++ flat_map (rows_of target.columns) text) d.0 (begin_more first l.above (flat_map (rows_of target.columns) text) b))
written_above NoFrame target bottom gone frame first l b = subst (Begin first) (sym (cleared_above l)) b

-- ---- a board's

module _ {B C : Type 0} (kind : BoardKind B C) (mark : ℕ) (first : List (List Cell)) where
  abbrev Stand : BoardState B → Type 0
  Stand s = Begin first s.lists.above

  abbrev Goes : Deed (BoardState B) Answer → Type 0
  Goes deed = Keeps (board kind mark) Stand deed

  unless_refused : (s : BoardState B) (refused : Option Refusal) (deed : Deed (BoardState B) Answer) → Stand s → Goes deed → Goes (or_refused refused deed s)
  unless_refused s None deed is goes = goes
  unless_refused s (Some e) deed is goes = is

  either : (b : Bool) (one other : Deed (BoardState B) Answer) → Goes one → Goes other → Goes (if b then one else other)
  either true one other a b = a
  either false one other a b = b

  inserted_goes : (s : BoardState B) (at : Location) (entrant : Entrant B) → Stand s → Goes (inserted mark at entrant s)
  inserted_goes s at (New bar) is = either (s.made == 2 ^ 64) _ _ is is
  inserted_goes s at (Old id) is = unless_refused s (turned_away mark id s) _ is is

  taken_out_stands : (s : BoardState B) (number : ℕ) → Stand s → Stand (taken_out number s)
  taken_out_stands s number is = cond_both (is_member number s.members) (record s { members = without number s.members }) s Stand (λ a. is) (λ a. is)

  left_by_stands : (target : Target) (number : ℕ) (keep : Keep) (s : BoardState B) → Stand s → Stand (left_by target number keep s)
  left_by_stands target number Absent s is = subst (Begin first) (sym (kept_above target.columns number s.lists)) is
  left_by_stands target number Passed s is = subst (Begin first) (sym (kept_above target.columns number s.lists)) is
  left_by_stands target number Behind s is = is

  left_stands : (target : Target) (number : ℕ) (s : BoardState B) → Stand s → Stand (left_on target number s)
  left_stands target number s is =
      cond_both (is_head number s.members) (left_by target number (fate number s.lists) s) (ownerless_on number s) Stand
      (λ a. left_by_stands target number (fate number s.lists) s is) (λ a. is)

  draw_goes : (target : Target) (takes : Bool) (ask : Ask) (now : ℕ) (writing : Writing) (after laid : BoardState B) (lays : Bool) → Stand after → Stand laid →
      Goes (draws (draw_of target takes ask now writing after laid lays))
  draw_goes target takes ask now writing after laid lays is more =
      (is, more, written_above writing target laid.bottom (leaders laid.members) (frame_of laid.members) first laid.lists more, (λ x p. p), λ x p. p)

  call_goes : (target : Target) (call : Call B C) (now : ℕ) (s : BoardState B) → Stand s → Goes ((board kind mark).deed target call now s)
  call_goes target (Insert at entrant) now s is = unless_refused s (anchor_turned_away mark at s) _ is (inserted_goes s at entrant is)
  call_goes target (Remove id) now s is = either (not (id.mark == mark)) _ _ is (taken_out_stands s id.number is)
  call_goes target (Drop id) now s is =
      let after = bar_changed id.number (kind.left now) s in
      let d = draw_goes target (said_of false (kind.left_takes now) id.number s.members) (said_of No (kind.left_asked now) id.number s.members) now Frame after
      (laid_out kind target now id.number after) (layout_takes kind id.number after) is is in
      unless_refused s (turned_away mark id s) _ is (d.0, d.1, d.2, left_stands target id.number, λ x p. p)
  call_goes target (Log text) now s is = draw_goes target false Forced now (TextAndFrame (text_lines (logged_lines text))) s s false is is
  call_goes target (BarLog id text) now s is =
      unless_refused s (turned_away mark id s) _ is
      (draw_goes target false Forced now (TextAndFrame (text_lines (logged_lines text))) s (laid_out kind target now id.number s) (layout_takes kind id.number s) is is)
  call_goes target Clear now s is = draw_goes target false Forced now NoFrame s s false is is
  call_goes target Redraw now s is = draw_goes target false Forced now Frame s s false is is
  call_goes target (Align bottom) now s is = is
  call_goes target (Tell id command) now s is =
      let after = bar_changed id.number (λ bar. (kind.bars.after command bar now).0) s in
      unless_refused s (turned_away mark id s) _ is
      (unless_refused s (said_of None (λ bar. kind.bars.refused command bar now) id.number s.members) _ is
      (draw_goes target (said_of false (λ bar. kind.bars.takes command bar now) id.number s.members) (said_of No (λ bar. (kind.bars.after command bar now).1) id.number s.members) now Frame after
      (laid_out kind target now id.number after) (layout_takes kind id.number after) is is))

pub above_only_grows : {B C : Type 0} (kind : BoardKind B C) (mark : ℕ) → AboveOnlyGrows (board kind mark)
above_only_grows kind mark calls answers old s new next run fine =
    let first = s.lists.above in
    run_keeps (board kind mark) (Stand kind mark first) (call_goes kind mark first) calls answers old s new next run fine ([], sym (append-nil first))

-- ---- an entry that logs a text

-- a draw that was answered so was written
drawn_yes : {S : Type 0} (target : Target) (d : Draw S) → (drawn_by target d).0 ≡ Ok Yes → (drawn_by target d).1 ≡ d.written
unfolding drawn_by
drawn_yes target d =
    let P = λ (o : Result Drawn Refusal × _). o.0 ≡ Ok Yes → o.1 ≡ d.written in
    cond_both (is_no d.ask) (Ok Limited, d.after_command) _ P (λ a. λ e. absurd (cc e))
    (λ a. cond_both target.hidden (Ok Hidden, d.after_command) _ P (λ b. λ e. absurd (cc e))
    (λ b. cond_both (target.columns == 0) (Err NoColumns, d.after_command) _ P (λ c. λ e. absurd (cc e))
    (λ c. cond_both (not d.allowed) (Ok Limited, d.ready) _ P (λ f. λ e. absurd (cc e))
    (λ f. cond_both (some_wide target.columns d.lines) (Err TooWide, d.ready) (Ok Yes, d.written) P (λ g. λ e. absurd (cc e)) (λ g. λ e. refl)))))

said_so : (r : Result Drawn Refusal) → Drew Yes ≡ says r → r ≡ Ok Yes
said_so (Ok d) e = cc e
said_so (Err refusal) e = absurd (cc e)

module _ {B C : Type 0} (kind : BoardKind B C) (mark : ℕ) where
  draws_yes : (target : Target) (s next : BoardState B) (d : Draw (BoardState B)) → Leads (board kind mark) target s (draws d) (Drew Yes) next → next ≡ d.written
  draws_yes target s next d (inl made) =
      let yes = said_so (drawn_by target d).0 (ap (λ o. o.0) made) in
      ap (λ o. o.1) made ∙ drawn_yes target d yes
  draws_yes target s next d (inr (inl short)) = absurd (let q = short.0 in cc q)
  draws_yes target s next d (inr (inr broken)) = absurd (let q = broken.1 in cc q)

  -- one that wasn't turned away
  unless_away : (target : Target) (s next : BoardState B) (refused : Option Refusal) (d : Draw (BoardState B)) →
      Leads (board kind mark) target s (or_refused refused (draws d) s) (Drew Yes) next → next ≡ d.written
  unless_away target s next None d led = draws_yes target s next d led
  unless_away target s next (Some e) d (inl made) = absurd (let q = ap (λ o. o.0) made in cc q)
  unless_away target s next (Some e) d (inr short) = absurd (let q = short.0 in cc q)

  -- the text's rows
  abbrev rows_on : Target → List ℕ → List (List Cell)
  rows_on target text = flat_map (rows_of target.columns) (text_lines (logged_lines text))

  log_stands : (target : Target) (text : List ℕ) (now : ℕ) (s laid : BoardState B) (lays : Bool) → laid.lists ≡ s.lists →
      Begin (s.lists.above ++ rows_on target text) (log_of kind target text now s laid lays).written.lists.above
  log_stands target text now s laid lays same =
      let b = logged_above target.columns target.rows laid.bottom (text_lines (logged_lines text)) (drop (leaders laid.members) (frame_of laid.members)) laid.lists in
      (b.0, b.1 ∙ ap (λ (l : Lists). (l.above ++ rows_on target text) ++ b.0) same)

  logged_now : (target : Target) (call : Call B C) (now : ℕ) (text : List ℕ) (s next : BoardState B) → text_of call ≡ Some text →
      Leads (board kind mark) target s ((board kind mark).deed target call now s) (Drew Yes) next → Begin (s.lists.above ++ rows_on target text) next.lists.above
  logged_now target (Log other) now text s next is led =
      let same : other ≡ text = cc is in
      let made = draws_yes target s next (log_of kind target other now s s false) led in
      subst (λ x. Begin (s.lists.above ++ rows_on target x) next.lists.above) same
      (subst (λ x. Begin (s.lists.above ++ rows_on target other) x.lists.above) (sym made) (log_stands target other now s s false refl))
  logged_now target (BarLog id other) now text s next is led =
      let same : other ≡ text = cc is in
      let laid = laid_out kind target now id.number s in
      let lays = layout_takes kind id.number s in
      let made = unless_away target s next (turned_away mark id s) (log_of kind target other now s laid lays) led in
      subst (λ x. Begin (s.lists.above ++ rows_on target x) next.lists.above) same
      (subst (λ x. Begin (s.lists.above ++ rows_on target other) x.lists.above) (sym made) (log_stands target other now s laid lays refl))
  logged_now target (Insert at entrant) now text s next is led = absurd (cc is)
  logged_now target (Remove id) now text s next is led = absurd (cc is)
  logged_now target (Drop id) now text s next is led = absurd (cc is)
  logged_now target Clear now text s next is led = absurd (cc is)
  logged_now target Redraw now text s next is led = absurd (cc is)
  logged_now target (Align bottom) now text s next is led = absurd (cc is)
  logged_now target (Tell id command) now text s next is led = absurd (cc is)

-- a call leaves the terminal's size
size_stays : {S C A : Type 0} (m : Machine S C A) (old new : Option TermView) (call : C × ℕ) (s next : S) (answer : A) → CallMade m old new call s answer next → target_of new ≡ target_of old
size_stays m None new call s next answer made = ap target_of made.writes
size_stays m (Some v) new call s next answer made =
    let counted = made.writes.2.counted in
    ap target_of made.writes.1 ∙ rw (counted.columns_stay, counted.rows_stay) refl

module _ {K : Type 0} (m : Tracking K) (mark : ℕ) where
  abbrev Rows : Target → List ℕ → List (List Cell) → Type 0
  Rows target text above = (front : List (List Cell)) × (rest : List (List Cell)) × (above ≡ front ++ flat_map (rows_of target.columns) (text_lines (logged_lines text)) ++ rest)

  -- the first call logs the text
  logged_first : (target : Target) (after : List (BoardStep K)) (call : Call (BarRecord K) (Command K)) (now : ℕ) (text : List ℕ) (old : Option TermView) (s : BoardState (BarRecord K))
      (new : Option TermView) (next : BoardState (BarRecord K)) → text_of call ≡ Some text → target_of old ≡ target → AreUnbroken after →
      (let steps = record { call = call; now = now; answer = Drew Yes } ∷ after in Runs (board (board_bars m) mark) (calls_of steps) (answers_of steps) old s new next) →
      Begin (s.lists.above ++ flat_map (rows_of target.columns) (text_lines (logged_lines text))) next.lists.above
  logged_first target after call now text old s new next is size fine run =
      let x = run.1 in
      let rows = flat_map (rows_of target.columns) (text_lines (logged_lines text)) in
      let here = subst (λ t. Begin (s.lists.above ++ flat_map (rows_of t.columns) (text_lines (logged_lines text))) x.lists.above) size
      (logged_now (board_bars m) mark (target_of old) call now text s x is run.2.leads) in
      let later = above_only_grows (board_bars m) mark (calls_of after) (answers_of after) run.0 x new next run.3 fine in
      (here.0 ++ later.0, later.1 ∙ ap (λ a. a ++ later.0) here.1 ∙ append_assoc (s.lists.above ++ rows) here.0 later.0)

  logged_then : (target : Target) (before after : List (BoardStep K)) (call : Call (BarRecord K) (Command K)) (now : ℕ) (text : List ℕ) (old : Option TermView) (s : BoardState (BarRecord K))
      (new : Option TermView) (next : BoardState (BarRecord K)) → text_of call ≡ Some text → target_of old ≡ target → AreUnbroken after →
      (let steps = before ++ record { call = call; now = now; answer = Drew Yes } ∷ after in Runs (board (board_bars m) mark) (calls_of steps) (answers_of steps) old s new next) →
      Rows target text next.lists.above
  logged_then target [] after call now text old s new next is size fine run =
      let first = logged_first target after call now text old s new next is size fine run in
      (s.lists.above, first.0, first.1)
  logged_then target (e ∷ before) after call now text old s new next is size fine run =
      let machine = board (board_bars m) mark in
      logged_then target before after call now text run.0 run.1 new next is (size_stays machine old run.0 (e.call, e.now) s run.1 e.answer run.2 ∙ size) fine run.3

  -- what is above stays there, and a text that is logged later comes below it
  logged_behind : (target : Target) (between after : List (BoardStep K)) (call : Call (BarRecord K) (Command K)) (now : ℕ) (text : List ℕ) (old : Option TermView) (s : BoardState (BarRecord K))
      (new : Option TermView) (next : BoardState (BarRecord K)) → text_of call ≡ Some text → target_of old ≡ target → AreUnbroken between → AreUnbroken after →
      (let steps = between ++ record { call = call; now = now; answer = Drew Yes } ∷ after in Runs (board (board_bars m) mark) (calls_of steps) (answers_of steps) old s new next) →
      (more : List (List Cell)) × (rest : List (List Cell)) × (next.lists.above ≡ s.lists.above ++ more ++ flat_map (rows_of target.columns) (text_lines (logged_lines text)) ++ rest)
  logged_behind target [] after call now text old s new next is size whole fine run =
      let rows = flat_map (rows_of target.columns) (text_lines (logged_lines text)) in
      let first = logged_first target after call now text old s new next is size fine run in
      ([], first.0, first.1 ∙ ap (λ a. (a ++ rows) ++ first.0) (sym (append-nil s.lists.above)))
  logged_behind target (e ∷ between) after call now text old s new next is size whole fine run =
      let machine = board (board_bars m) mark in
      let rows = flat_map (rows_of target.columns) (text_lines (logged_lines text)) in
      let p = or_parts (is_failure (drawn_of e.answer)) (list_any (λ answer. is_failure (drawn_of answer)) (answers_of between)) whole in
      let x = run.1 in
      let grown = above_only_grows (board_bars m) mark ((e.call, e.now) ∷ []) (e.answer ∷ []) old s run.0 x (run.0, x, run.2, (refl, refl)) (rw p.0 refl) in
      let later = logged_behind target between after call now text run.0 x new next is (size_stays machine old run.0 (e.call, e.now) s x e.answer run.2 ∙ size) p.1 fine run.3 in (
        grown.0 ++ later.0,
        later.1,
        later.2 ∙ ap (λ a. ((a ++ later.0) ++ rows) ++ later.1) grown.1 ∙ ap (λ a. (a ++ rows) ++ later.1) (append_assoc s.lists.above grown.0 later.0),
      )

  -- two texts, one after the other
  pub logged_in_order : (target : Target) (before between after : List (BoardStep K)) (one other : Call (BarRecord K) (Command K)) (now later : ℕ) (text below : List ℕ) (old : Option TermView)
      (s : BoardState (BarRecord K)) (new : Option TermView) (next : BoardState (BarRecord K)) → text_of one ≡ Some text → text_of other ≡ Some below → target_of old ≡ target →
      AreUnbroken between → AreUnbroken after →
      (let steps = before ++ record { call = one; now = now; answer = Drew Yes } ∷ (between ++ record { call = other; now = later; answer = Drew Yes } ∷ after) in
      Runs (board (board_bars m) mark) (calls_of steps) (answers_of steps) old s new next) →
      (front : List (List Cell)) × (middle : List (List Cell)) × (rest : List (List Cell))
      × (next.lists.above ≡ front ++ flat_map (rows_of target.columns) (text_lines (logged_lines text)) ++ middle ++ flat_map (rows_of target.columns) (text_lines (logged_lines below)) ++ rest)
  logged_in_order target [] between after one other now later text below old s new next is is' size whole fine run =
      let machine = board (board_bars m) mark in
      let x = run.1 in
      let rows = flat_map (rows_of target.columns) (text_lines (logged_lines text)) in
      let rows' = flat_map (rows_of target.columns) (text_lines (logged_lines below)) in
      let here = subst (λ t. Begin (s.lists.above ++ flat_map (rows_of t.columns) (text_lines (logged_lines text))) x.lists.above) size
      (logged_now (board_bars m) mark (target_of old) one now text s x is run.2.leads) in
      let behind = logged_behind target between after other later below run.0 x new next is' (size_stays machine old run.0 (one, now) s x (Drew Yes) run.2 ∙ size) whole fine run.3 in (
        s.lists.above,
        here.0 ++ behind.0,
        behind.1,
        behind.2 ∙ ap (λ a. ((a ++ behind.0) ++ rows') ++ behind.1) here.1 ∙ ap (λ a. (a ++ rows') ++ behind.1) (append_assoc (s.lists.above ++ rows) here.0 behind.0),
      )
  logged_in_order target (e ∷ before) between after one other now later text below old s new next is is' size whole fine run =
      let machine = board (board_bars m) mark in
      logged_in_order target before between after one other now later text below run.0 run.1 new next is is'
      (size_stays machine old run.0 (e.call, e.now) s run.1 e.answer run.2 ∙ size) whole fine run.3

-- ---- the laws

module _ {K T : Type 0} (m : Tracking K) where
  pub follows : FollowsFromItsCalls T m
  follows opened r last run fine =
      let machine = board (board_bars m) r.mark in
      subst (λ t. outcomes machine t (calls_of r.steps) (opening_board r.limiter) ≡ (answers_of r.steps, run.state)) run.size
      (one_outcome machine (calls_of r.steps) (answers_of r.steps) opened (opening_board r.limiter) last run.state run.runs fine)

  pub bounded : HasBoundedDraws T m
  bounded opened r last run rate making some few is =
      runs_bounded (board (board_bars m) r.mark) (λ s. s.limiter) (board_limited (board_bars m) r.mark) rate making some few (calls_of r.steps) (answers_of r.steps) opened
      (opening_board r.limiter) last run.state run.runs is

  pub logged_stand : LoggedRowsStand T m
  logged_stand opened r last run before after call now text is split fine =
      logged_then m r.mark r.target before after call now text opened (opening_board r.limiter) last run.state is run.size fine
      (subst (λ steps. Runs (board (board_bars m) r.mark) (calls_of steps) (answers_of steps) opened (opening_board r.limiter) last run.state) split run.runs)

  pub read_so : IsReadAsItsRun T m
  read_so v r last run fine plain opening starts =
      let begun = opening_board r.limiter in
      let texts = board_runs_are_plain m r.mark (calls_of r.steps) (answers_of r.steps) (Some v) begun last run.state run.runs (All-from_recursion (IsPlainMember m) [] tt) plain in
      board_read_after (board_bars m) r.mark (calls_of r.steps) (answers_of r.steps) v begun last run.state refl run.runs fine texts.0 opening starts
