-- A lone bar: its states, its calls, and the effect of each call.
use Rattle.std.specs.Prelude.{ℕ, Bool, false, ◌&&◌, List, [], ◌∷◌, map, chars, Option, Some, None, Result, Err, refl}
use Rattle.indicatif_text.specs.declared.refusal.Refusal.{Refusal}
use Rattle.indicatif_text.specs.declared.refusal.Drawn.{Drawn}
use Rattle.indicatif_term.specs.Lists.{Lists, BarLines, opening_lists, forgotten_lists}
use Rattle.indicatif_term.specs.Lines.{text_lines, logged_lines}
use Rattle.indicatif_term.specs.Limiters.{Limiter}
use Rattle.indicatif_bar.specs.Machines.{Target, Machine, Draw, Deed, AtOnce, Draws}
use Rattle.indicatif_bar.specs.Kinds.{Kind, asked_of, Writing, Frame, TextAndFrame, NoFrame, rows_take, lines_to_write, written_lists}
use Rattle.indicatif_bar.specs.declared.ask.Ask.{Ask}
use Rattle.indicatif_bar.specs.declared.ask.Ask.TheVariants.{Forced}

-- ---- states

-- a lone bar between two calls
pub record LoneState (B : Type 0) : Type 0 where
  pub bar : B
  -- its limiter; none if it is drawn without limit
  pub limiter : Option Limiter
  -- the rows that it drew
  pub lists : Lists

-- before its first call
abbrev pub opening_state : {B : Type 0} → B → Option Limiter → LoneState B
opening_state bar limiter = record { bar = bar; limiter = limiter; lists = opening_lists }

-- ---- calls

-- a call of a lone bar
pub data LoneCall (C : Type 0) : Type 0 where
  -- a command of the bar
  Obey : (command : C) → LoneCall C
  -- lines of text above the bar
  Log : (text : List ℕ) → LoneCall C
  -- erases the bar's rows
  Clear : LoneCall C

module _ {B C : Type 0} (kind : Kind B C) where
  -- the bar after a call
  abbrev pub bar_after : LoneCall C → ℕ → B → B
  bar_after (Obey command) now bar = (kind.after command bar now).0
  bar_after _ now bar = bar

  -- the bar after calls at their moments, one after another
  abbrev pub bar_after_all : List (LoneCall C × ℕ) → B → B
  bar_after_all [] bar = bar
  bar_after_all (call ∷ calls) bar = bar_after_all calls (bar_after call.0 call.1 bar)

  -- the bar as the only member of a frame: it is laid out again for each draw that writes its lines
  abbrev pub lone_frame : Target → ℕ → B → List BarLines
  lone_frame target now bar = record { bar = 0; lines = map chars (kind.lines bar now target.columns) } ∷ []

  -- whether that takes memory
  abbrev pub lines_take : Writing → B → Bool
  lines_take NoFrame bar = false
  lines_take _ bar = kind.lays bar

  -- a draw, once the bar's record has changed: the limiter decides first, and the bar is laid out only if it allows the draw
  abbrev pub draw_asked : Target → Bool → Ask → ℕ → Writing → LoneState B → Draw (LoneState B)
  draw_asked target takes ask now writing s =
      let asked = asked_of ask now s.limiter in
      let ready = record s { limiter = asked.1 } in
      let frame = lone_frame target now s.bar in
      record {
        text_takes = takes;
        lines_take = asked.0 && lines_take writing s.bar;
        rows_take = rows_take writing 0 frame;
        ask = ask;
        after_command = s;
        ready = ready;
        allowed = asked.0;
        lines = lines_to_write writing 0 frame;
        written = record ready { lists = written_lists writing target false 0 frame s.lists };
        broken = record ready { lists = forgotten_lists };
      }

  -- the draw of a call: a command first changes the bar; the draw of a text and that of a clear are forced
  abbrev pub draw_of_call : Target → LoneCall C → ℕ → LoneState B → Draw (LoneState B)
  draw_of_call target (Obey command) now s =
      let told = kind.after command s.bar now in
      draw_asked target (kind.takes command s.bar now) told.1 now Frame (record s { bar = told.0 })
  draw_of_call target (Log text) now s = draw_asked target false Forced now (TextAndFrame (text_lines (logged_lines text))) s
  draw_of_call target Clear now s = draw_asked target false Forced now NoFrame s

  -- why a call is refused at once, if it is
  abbrev pub refused_at_once : LoneCall C → ℕ → B → Option Refusal
  refused_at_once (Obey command) now bar = kind.refused command bar now
  refused_at_once _ now bar = None

  -- refused, and nothing changes; or drawn
  abbrev pub deed_unless : Option Refusal → Draw (LoneState B) → LoneState B → Deed (LoneState B) (Result Drawn Refusal)
  deed_unless (Some e) draw s = AtOnce false (Err e) s
  deed_unless None draw s = Draws draw (λ x. x) (λ x. x)

  -- a lone bar of this kind
  abbrev pub lone : Machine (LoneState B) (LoneCall C) (Result Drawn Refusal)
  lone = record {
    lists = λ s. s.lists;
    deed = λ target call now s. deed_unless (refused_at_once call now s.bar) (draw_of_call target call now s) s;
    says = λ answer. answer;
    tells = λ answer. answer;
    tells_said = λ answer. refl;
  }
