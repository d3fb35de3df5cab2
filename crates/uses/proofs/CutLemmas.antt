-- What a size between two logs of fixed texts leaves on a new board.
use Rattle.std.proofs.Common.{◌≡◌, List, [], ◌∷◌, ℕ, map, take, refl, sym, subst, ap, ◌∙◌, None, arith}
use Rattle.std.specs.Prelude.{codes, false, All}
use Rattle.std.specs.Str.{chars}
use Rattle.std.proofs.Math.Utf8.{encode}
use Rattle.std.proofs.lemmas.List.Elements.{All-from_recursion}
use Rattle.unicode_width.specs.Width.{char_width}
use Rattle.unicode_width.proofs.Computing.{unicode_width}
use Rattle.indicatif_text.specs.Columns.{rows_of, visible, has_wide}
use Rattle.indicatif_text.specs.declared.refusal.Drawn.{Drawn}
use Rattle.indicatif_text.specs.ColumnLaws.{PrintedIsPlain}
use Rattle.indicatif_term.specs.Lines.{logged_lines}
use Rattle.indicatif_term.specs.Screen.{blank_screen}
use Rattle.indicatif_term.specs.Lists.{all_rows, drawn, logged, cleared, shown_rows, lines_of, fitting, grouped}
use Rattle.indicatif_term.specs.Pictures.{row_text}
use Rattle.indicatif_term.specs.Resizes.{recut, resized, resized_lists}
use Rattle.indicatif_bar.specs.Machines.{Target, Leads, done_by, drawn_by}
use Rattle.indicatif_bar.specs.Scripts.{sized}
use Rattle.indicatif_bar.specs.StyleLaws.{IsPlainText}
use Rattle.indicatif_bar.specs.Trackers.{Tracking}
use Rattle.indicatif_bar.specs.Commands.{BarRecord, Command}
use Rattle.indicatif_bar.proofs.RunLemmas.{made_of}
use Rattle.indicatif_board.specs.Boards.{BoardState, Call, Log, Answer, Drew, opening_board}
use Rattle.indicatif_board.specs.Multi.{board_sizing}
use Rattle.indicatif_board.specs.PlainBoardLaws.{IsPlainCall}
use Rattle.uses.proofs.PlainLemmas.{first_name, first_plain, second_name, second_plain, printed_plain, small, machine}

abbrev pub short_name : List ℕ
short_name = codes "b"

-- a terminal of 4 rows and 3 columns
abbrev pub narrow : Target
narrow = record { hidden = false; columns = 3; rows = 4 }

module _ {K : Type 0} (m : Tracking K) where
  -- the state once the terminal has 3 columns
  abbrev pub cut : Target → BoardState (BarRecord K) → BoardState (BarRecord K)
  cut target s = sized (machine m) (board_sizing m 0) 3 4 target s

  -- what a log of a text comes to on a target where nothing fails
  abbrev done_on : Target → List ℕ → BoardState (BarRecord K) → Answer × BoardState (BarRecord K)
  done_on target text s = done_by (machine m) target ((machine m).deed target (Log text) 0 s)

  -- a log that was answered well comes to that
  made_on : (target : Target) (text : List ℕ) (s next : BoardState (BarRecord K)) (answered : Drawn) →
      Leads (machine m) target s ((machine m).deed target (Log text) 0 s) (Drew answered) next → (Drew answered, next) ≡ done_on target text s
  made_on target text s next answered led = sym (made_of (machine m) target s ((machine m).deed target (Log text) 0 s) (Drew answered) next led refl)

  -- the rows after both read as the first name, cut, and the other one
  pub cut_names_read : (x next : BoardState (BarRecord K)) (one other : Drawn) →
      Leads (machine m) small (opening_board None) ((machine m).deed small (Log first_name) 0 (opening_board None)) (Drew one) x →
      Leads (machine m) narrow (cut small x) ((machine m).deed narrow (Log short_name) 0 (cut small x)) (Drew other) next →
      map row_text (all_rows 3 next.lists) ≡ codes "a.t" ∷ codes "xt" ∷ short_name ∷ []
  unfolding char_width unicode_width rows_of visible has_wide drawn logged cleared shown_rows lines_of fitting grouped chars encode drawn_by recut resized_lists
  cut_names_read x next one other a b =
      let p = made_on small first_name (opening_board None) x one a in
      let q = made_on narrow short_name (cut small x) next other b in
      let last : next ≡ (done_on narrow short_name (cut small (done_on small first_name (opening_board None)).1)).1 =
      ap (λ o. o.1) q ∙ ap (λ o. (done_on narrow short_name (cut small o.1)).1) p in
      ap (λ n. map row_text (all_rows 3 n.lists)) last ∙ refl

-- no row stands above a new terminal's cursor, nor does one where it is narrower
pub none_above : (let s = resized 3 4 (blank_screen 4 10) in take s.row s.rows ≡ [])
unfolding resized recut char_width
none_above = refl

short_plain : PrintedIsPlain → IsPlainText short_name
short_plain law = printed_plain law short_name ((omega arith, omega arith), tt)

-- each of the calls
abbrev pub log_of : {K : Type 0} → List ℕ → List (Call (BarRecord K) (Command K) × ℕ)
log_of text = (Log text, 0) ∷ []

module _ (law : PrintedIsPlain) {K : Type 0} (m : Tracking K) where
  log_plain : (text : List ℕ) → All IsPlainText (text ∷ []) → logged_lines text ≡ text ∷ [] → All (λ call. IsPlainCall m call.0) (log_of text)
  log_plain text plain one = All-from_recursion (λ call. IsPlainCall m call.0) (log_of text) (subst (All IsPlainText) (sym one) plain, tt)

  pub first_log_plain : All (λ call. IsPlainCall m call.0) (log_of first_name)
  first_log_plain = log_plain first_name (All-from_recursion IsPlainText (first_name ∷ []) (first_plain law, tt)) refl

  pub short_log_plain : All (λ call. IsPlainCall m call.0) (log_of short_name)
  short_log_plain = log_plain short_name (All-from_recursion IsPlainText (short_name ∷ []) (short_plain law, tt)) refl

  pub second_log_plain : All (λ call. IsPlainCall m call.0) (log_of second_name)
  second_log_plain = log_plain second_name (All-from_recursion IsPlainText (second_name ∷ []) (second_plain law, tt)) refl
