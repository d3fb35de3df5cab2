-- A board's rows are forgotten only where the terminal failed, so that after a run that it didn't break off they are read.
use Rattle.std.proofs.Common.{◌≡◌, ℕ, Bool, true, false, List, Option, Some, None, if◌then◌else◌}
use Rattle.std.specs.Prelude.{IsFalse, ◌^◌, not, ◌==◌}
use Rattle.std.proofs.lemmas.Bool.{cond_both}
use Rattle.indicatif_text.specs.declared.refusal.Refusal.{Refusal}
use Rattle.indicatif_term.specs.Calls.{TermView}
use Rattle.indicatif_term.specs.Lines.{text_lines, logged_lines}
use Rattle.indicatif_term.specs.Lists.{Lists, fate, kept_of, passed, is_first}
use Rattle.indicatif_term.specs.declared.target.Keep.{Keep}
use Rattle.indicatif_term.specs.declared.target.Keep.TheVariants.{Absent, Passed, Behind}
use Rattle.indicatif_bar.specs.Machines.{Target, Deed}
use Rattle.indicatif_bar.specs.Runs.{ReadsAfter}
use Rattle.indicatif_bar.specs.Kinds.{Writing, Frame, TextAndFrame, NoFrame}
use Rattle.indicatif_bar.specs.declared.ask.Ask.{Ask}
use Rattle.indicatif_bar.specs.declared.ask.Ask.TheVariants.{No, Forced}
use Rattle.indicatif_bar.proofs.SoundRunLemmas.{DrawsSoundly, GoesSoundly, sound_read_after}
use Rattle.indicatif_bar.proofs.LoneRunLemmas.{written_soundly}
use Rattle.indicatif_board.specs.Members.{is_member, is_head, without, said_of, leaders, frame_of}
use Rattle.indicatif_board.specs.Boards.{BoardState, BoardKind, Call, Insert, Remove, Drop, Log, BarLog, Clear, Redraw, Align, Tell, Answer, Location, Entrant, New, Old, turned_away, anchor_turned_away, or_refused, inserted, taken_out, draws, draw_of, bar_changed, laid_out, layout_takes, left_by, left_on, ownerless_on, board}

-- the first segment's rows pass to kept, and none are forgotten
kept_soundly : (columns number : ℕ) (l : Lists) → l.failed ≡ false → (kept_of columns number l).failed ≡ false
unfolding kept_of
kept_soundly columns number l sound = cond_both (is_first number l.live.segments) (passed columns 1 l) l (λ x. x.failed ≡ false) (λ a. sound) (λ a. sound)

module _ {B C : Type 0} (kind : BoardKind B C) (mark : ℕ) where
  -- the rows of a board aren't forgotten
  abbrev RowsStand : BoardState B → Type 0
  RowsStand s = s.lists.failed ≡ false

  abbrev BoardGoes : BoardState B → Deed (BoardState B) Answer → Type 0
  BoardGoes s deed = GoesSoundly (board kind mark) s deed

  unless_refused : (s : BoardState B) (refused : Option Refusal) (deed : Deed (BoardState B) Answer) → BoardGoes s deed → BoardGoes s (or_refused refused deed s)
  unless_refused s None deed goes = goes
  unless_refused s (Some e) deed goes = λ sound. sound

  either : (s : BoardState B) (b : Bool) (one other : Deed (BoardState B) Answer) → BoardGoes s one → BoardGoes s other → BoardGoes s (if b then one else other)
  either s true one other a b = a
  either s false one other a b = b

  inserted_soundly : (s : BoardState B) (at : Location) (entrant : Entrant B) → BoardGoes s (inserted mark at entrant s)
  inserted_soundly s at (New bar) = either s (s.made == 2 ^ 64) _ _ (λ sound. sound) (λ sound. sound)
  inserted_soundly s at (Old id) = unless_refused s (turned_away mark id s) _ (λ sound. sound)

  taken_out_soundly : (s : BoardState B) (number : ℕ) → RowsStand s → RowsStand (taken_out number s)
  taken_out_soundly s number sound = cond_both (is_member number s.members) (record s { members = without number s.members }) s RowsStand (λ a. sound) (λ a. sound)

  left_by_soundly : (target : Target) (number : ℕ) (keep : Keep) (s : BoardState B) → RowsStand s → RowsStand (left_by target number keep s)
  left_by_soundly target number Absent s sound = kept_soundly target.columns number s.lists sound
  left_by_soundly target number Passed s sound = kept_soundly target.columns number s.lists sound
  left_by_soundly target number Behind s sound = sound

  left_soundly : (target : Target) (number : ℕ) (s : BoardState B) → RowsStand s → RowsStand (left_on target number s)
  left_soundly target number s sound =
      cond_both (is_head number s.members) (left_by target number (fate number s.lists) s) (ownerless_on number s) RowsStand
      (λ a. left_by_soundly target number (fate number s.lists) s sound) (λ a. sound)

  draw_soundly : (target : Target) (takes : Bool) (ask : Ask) (now : ℕ) (writing : Writing) (s after laid : BoardState B) (lays : Bool) →
      (RowsStand s → RowsStand after) → (RowsStand s → RowsStand laid) →
      DrawsSoundly (board kind mark) s (draw_of target takes ask now writing after laid lays)
  draw_soundly target takes ask now writing s after laid lays numbers ready =
      record { numbers = numbers; ready = ready; written = λ sound. written_soundly writing target laid.bottom (leaders laid.members) (frame_of laid.members) laid.lists }

  -- a draw that nothing follows, of a board as it is and with its lines laid out
  only_draws : (target : Target) (takes : Bool) (ask : Ask) (now : ℕ) (writing : Writing) (s after laid : BoardState B) (lays : Bool) →
      (RowsStand s → RowsStand after) → (RowsStand s → RowsStand laid) →
      BoardGoes s (draws (draw_of target takes ask now writing after laid lays))
  only_draws target takes ask now writing s after laid lays numbers ready = (draw_soundly target takes ask now writing s after laid lays numbers ready, (λ x sound. sound), λ x sound. sound)

  pub board_goes : (target : Target) (call : Call B C) (now : ℕ) (s : BoardState B) → BoardGoes s ((board kind mark).deed target call now s)
  board_goes target (Insert at entrant) now s = unless_refused s (anchor_turned_away mark at s) _ (inserted_soundly s at entrant)
  board_goes target (Remove id) now s = either s (not (id.mark == mark)) _ _ (λ sound. sound) (taken_out_soundly s id.number)
  board_goes target (Drop id) now s =
      let after = bar_changed id.number (kind.left now) s in
      unless_refused s (turned_away mark id s) _ (
        draw_soundly target (said_of false (kind.left_takes now) id.number s.members) (said_of No (kind.left_asked now) id.number s.members) now Frame s after
            (laid_out kind target now id.number after) (layout_takes kind id.number after) (λ sound. sound) (λ sound. sound),
        left_soundly target id.number,
        λ x sound. sound,
      )
  board_goes target (Log text) now s = only_draws target false Forced now (TextAndFrame (text_lines (logged_lines text))) s s s false (λ sound. sound) (λ sound. sound)
  board_goes target (BarLog id text) now s =
      unless_refused s (turned_away mark id s) _
      (only_draws target false Forced now (TextAndFrame (text_lines (logged_lines text))) s s (laid_out kind target now id.number s) (layout_takes kind id.number s) (λ sound. sound) (λ sound. sound))
  board_goes target Clear now s = only_draws target false Forced now NoFrame s s s false (λ sound. sound) (λ sound. sound)
  board_goes target Redraw now s = only_draws target false Forced now Frame s s s false (λ sound. sound) (λ sound. sound)
  board_goes target (Align bottom) now s = λ sound. sound
  board_goes target (Tell id command) now s =
      let after = bar_changed id.number (λ bar. (kind.bars.after command bar now).0) s in
      unless_refused s (turned_away mark id s) _
      (unless_refused s (said_of None (λ bar. kind.bars.refused command bar now) id.number s.members) _
      (only_draws target (said_of false (λ bar. kind.bars.takes command bar now) id.number s.members) (said_of No (λ bar. (kind.bars.after command bar now).1) id.number s.members) now Frame s after
      (laid_out kind target now id.number after) (layout_takes kind id.number after) (λ sound. sound) (λ sound. sound)))

  pub board_read_after : (calls : List (Call B C × ℕ)) (answers : List Answer) (v : TermView) (s : BoardState B) (new : Option TermView) (next : BoardState B) →
      IsFalse s.lists.failed → ReadsAfter (board kind mark) calls answers v s new next
  board_read_after = sound_read_after (board kind mark) board_goes
