-- What a bar that says something leaves, with a line logged above it: a lone one, and one on a board.
use Rattle.std.proofs.Common.{◌≡◌, ℕ, List, [], ◌∷◌, map, refl, sym, ◌∙◌, ap, Option, Some, None, Result, Ok, inl, inr, true}
use Rattle.std.specs.Prelude.{codes, false}
use Rattle.std.proofs.lemmas.Bool.{false≢true}
use Rattle.std.specs.Str.{chars}
use Rattle.std.proofs.Math.Utf8.{encode}
use Rattle.unicode_width.specs.Width.{char_width}
use Rattle.unicode_width.proofs.Computing.{unicode_width}
use Rattle.indicatif_text.specs.Columns.{rows_of, visible, has_wide, is_plain}
use Rattle.indicatif_text.specs.Template.{TemplatePart, KeyText, Keyed, Parses, plain_layout, front, end, piece, parts_of}
use Rattle.indicatif_text.specs.declared.refusal.Refusal.{Refusal}
use Rattle.indicatif_text.specs.declared.refusal.Drawn.{Drawn}
use Rattle.indicatif_term.specs.Lists.{all_rows, drawn, logged, cleared, shown_rows, lines_of, fitting, grouped}
use Rattle.indicatif_term.specs.Lines.{are_plain}
use Rattle.indicatif_term.specs.Pictures.{row_text}
use Rattle.indicatif_bar.specs.Styles.{BarStyle, lines}
use Rattle.indicatif_bar.specs.Builders.{first_clusters}
use Rattle.indicatif_term.specs.Calls.{TermView}
use Rattle.indicatif_bar.specs.Machines.{Machine, Leads, target_of, done_by, drawn_by}
use Rattle.indicatif_bar.specs.Runs.{CallMade, lines_by}
use Rattle.indicatif_bar.specs.Trackers.{Tracking}
use Rattle.indicatif_bar.specs.Commands.{BarRecord, Command, SetMessage, new_bar}
use Rattle.indicatif_bar.specs.Lone.{LoneState, LoneCall, Obey, Log, opening_state}
use Rattle.indicatif_bar.specs.LoneBars.{lone_bar}
use Rattle.indicatif_bar.proofs.RunLemmas.{made_of}
use Rattle.indicatif_board.specs.Boards.{BoardState, Id, End, New, Call, Insert, Tell, Log as LogOn, Answer, Given, Drew, opening_board}
use Rattle.uses.proofs.PlainLemmas.{first_name, small, machine}

abbrev pub saying : List ℕ
saying = codes "copying"

-- the parts of a template that shows the message alone
abbrev pub message_parts : List TemplatePart
message_parts = KeyText (codes "msg") plain_layout ∷ []

pub message_read : Parses (codes "{msg}") message_parts
unfolding front parts_of
message_read = record { pieces = Keyed (codes "msg") plain_layout ∷ []; reads = piece refl end; makes = refl }

-- the style of such a template, with these texts of a spinner; and a bar of it
abbrev pub message_style : {K : Type 0} → List (List ℕ) → BarStyle K
message_style ticks = record { parts = message_parts; clusters = first_clusters; tick_strings = ticks; keys = []; colours = false; tab = 8 }

abbrev pub message_bar : {K : Type 0} → List (List ℕ) → BarRecord K
message_bar ticks = new_bar (message_style ticks) None 0

-- a new style whose parts are these is such a style
pub style_known : {K : Type 0} {ticks : List (List ℕ)} (style : BarStyle K) →
    style ≡ record { parts = style.parts; clusters = first_clusters; tick_strings = ticks; keys = []; colours = false; tab = 8 } → style.parts ≡ message_parts →
    (strings : List (List ℕ)) × (style ≡ message_style strings)
style_known {K} {ticks} style is parts =
    (ticks, is ∙ ap (λ (p : List TemplatePart). record { parts = p; clusters = first_clusters; tick_strings = ticks; keys = []; colours = false; tab = 8 }) parts)

-- a terminal keeps its size in a call
pub small_still : {S C A : Type 0} (m : Machine S C A) (old new : Option TermView) (call : C × ℕ) (s next : S) (answer : A) → CallMade m old new call s answer next →
    target_of old ≡ small → target_of new ≡ small
small_still m None new call s next answer made e = absurd (false≢true (sym (ap (λ t. t.hidden) e)))
small_still m (Some v) new call s next answer made e = ap target_of made.writes.1 ∙ rw (made.writes.2.counted.columns_stay, made.writes.2.counted.rows_stay) e

-- ---- a lone bar

abbrev pub say : {K : Type 0} → LoneCall (Command K)
say = Obey (SetMessage saying)

module _ {K : Type 0} (m : Tracking K) where
  -- what a call comes to where nothing fails
  abbrev pub lone_done : LoneCall (Command K) → LoneState (BarRecord K) → Result Drawn Refusal × LoneState (BarRecord K)
  lone_done call s = done_by (lone_bar m) small ((lone_bar m).deed small call 0 s)

  -- a call led on so
  abbrev pub LoneLed : LoneCall (Command K) → LoneState (BarRecord K) → Drawn → LoneState (BarRecord K) → Type 0
  LoneLed call s answered next = Leads (lone_bar m) small s ((lone_bar m).deed small call 0 s) (Ok answered) next

  -- one that was answered well comes to that
  lone_made : (call : LoneCall (Command K)) (s next : LoneState (BarRecord K)) (answered : Drawn) → LoneLed call s answered next → next ≡ (lone_done call s).1
  lone_made call s next answered led = ap (λ o. o.1) (sym (made_of (lone_bar m) small s ((lone_bar m).deed small call 0 s) (Ok answered) next led refl))

  module _ (ticks : List (List ℕ)) (x : LoneState (BarRecord K)) (one : Drawn) (led : LoneLed say (opening_state (message_bar ticks) None) one x) where
    -- the rows after both read as the name and the message
    pub shown_read : (next : LoneState (BarRecord K)) (other : Drawn) → LoneLed (Log first_name) x other next → map row_text (all_rows 10 next.lists) ≡ first_name ∷ saying ∷ []
    unfolding char_width unicode_width rows_of visible has_wide drawn logged cleared shown_rows lines_of fitting grouped chars encode lines drawn_by
    shown_read next other b =
        let start = opening_state (message_bar ticks) None in
        ap (λ n. map row_text (all_rows 10 n.lists)) (lone_made (Log first_name) x next other b ∙ ap (λ y. (lone_done (Log first_name) y).1) (lone_made say start x one led)) ∙ refl

    -- the lines of the log are plain
    pub log_plain : are_plain (lines_by ((lone_bar m).deed small (Log first_name) 0 x)) ≡ true
    unfolding char_width unicode_width visible has_wide is_plain chars encode lines drawn_by
    log_plain = ap (λ y. are_plain (lines_by ((lone_bar m).deed small (Log first_name) 0 y))) (lone_made say (opening_state (message_bar ticks) None) x one led) ∙ refl

  -- so is that of the message
  pub say_plain : (ticks : List (List ℕ)) → are_plain (lines_by ((lone_bar m).deed small say 0 (opening_state (message_bar ticks) None))) ≡ true
  unfolding char_width unicode_width visible is_plain chars encode lines
  say_plain ticks = refl

-- ---- the same of a bar on a board

abbrev pub own : Id
own = record { mark = 0; number = 0 }

abbrev pub add_bar : {K : Type 0} → List (List ℕ) → Call (BarRecord K) (Command K)
add_bar ticks = Insert End (New (message_bar ticks))

abbrev pub say_on : {K : Type 0} → Call (BarRecord K) (Command K)
say_on = Tell own (SetMessage saying)

module _ {K : Type 0} (m : Tracking K) where
  -- what a call comes to where nothing fails
  abbrev pub board_done : Call (BarRecord K) (Command K) → BoardState (BarRecord K) → Answer × BoardState (BarRecord K)
  board_done call s = done_by (machine m) small ((machine m).deed small call 0 s)

  -- a call led on with this answer
  abbrev pub BoardLed : Call (BarRecord K) (Command K) → BoardState (BarRecord K) → Answer → BoardState (BarRecord K) → Type 0
  BoardLed call s answer next = Leads (machine m) small s ((machine m).deed small call 0 s) answer next

  board_made : (call : Call (BarRecord K) (Command K)) (s next : BoardState (BarRecord K)) (answered : Drawn) → BoardLed call s (Drew answered) next → next ≡ (board_done call s).1
  board_made call s next answered led = ap (λ o. o.1) (sym (made_of (machine m) small s ((machine m).deed small call 0 s) (Drew answered) next led refl))

  module _ (ticks : List (List ℕ)) (x : BoardState (BarRecord K)) (id : Id) where
    taken_so : BoardLed (add_bar ticks) (opening_board None) (Given id) x → (Given id, x) ≡ board_done (add_bar ticks) (opening_board None)
    taken_so (inl made) = made
    taken_so (inr short) = absurd (let q = short.0 in cc q)

    -- the first bar's number is 0
    pub taken_first : BoardLed (add_bar ticks) (opening_board None) (Given id) x → id ≡ own
    taken_first led = let e : Given id ≡ Given own = ap (λ o. o.0) (taken_so led) in cc

    module _ (taken : BoardLed (add_bar ticks) (opening_board None) (Given id) x) where
      -- the lines of the message are plain
      pub say_on_plain : are_plain (lines_by ((machine m).deed small say_on 0 x)) ≡ true
      unfolding char_width unicode_width visible is_plain chars encode lines
      say_on_plain = ap (λ y. are_plain (lines_by ((machine m).deed small say_on 0 y))) (ap (λ o. o.1) (taken_so taken)) ∙ refl

      module _ (y : BoardState (BarRecord K)) (one : Drawn) (led : BoardLed say_on x (Drew one) y) where
        told : y ≡ (board_done say_on (board_done (add_bar ticks) (opening_board None)).1).1
        told = board_made say_on x y one led ∙ ap (λ o. (board_done say_on o.1).1) (taken_so taken)

        -- so are those of the log
        pub log_on_plain : are_plain (lines_by ((machine m).deed small (LogOn first_name) 0 y)) ≡ true
        unfolding char_width unicode_width visible has_wide is_plain chars encode lines drawn_by
        log_on_plain = ap (λ z. are_plain (lines_by ((machine m).deed small (LogOn first_name) 0 z))) told ∙ refl

        -- the rows after all read as the name and the message
        pub board_shown_read : (next : BoardState (BarRecord K)) (other : Drawn) → BoardLed (LogOn first_name) y (Drew other) next → map row_text (all_rows 10 next.lists) ≡ first_name ∷ saying ∷ []
        unfolding char_width unicode_width rows_of visible has_wide drawn logged cleared shown_rows lines_of fitting grouped chars encode lines drawn_by
        board_shown_read next other b =
            ap (λ n. map row_text (all_rows 10 n.lists)) (board_made (LogOn first_name) y next other b ∙ ap (λ z. (board_done (LogOn first_name) z).1) told) ∙ refl
