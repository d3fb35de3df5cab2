-- A bar's record and how each command changes it. Texts are lists of bytes in UTF-8, moments and times nanoseconds.
use Rattle.std.specs.declared.string.String.{String}
use Rattle.std.specs.declared.alloc.Global.{Global}
use Rattle.std.specs.Prelude.{not, ◌||◌, ◌==◌, ℕ, string_bytes, ◌+◌, ◌-◌, ◌%◌, ◌^◌, Bool, true, false, nat_lt, min, List, Option, Some, None, if◌then◌else◌, unwrap_or, option_map}
use Rattle.std.specs.Option.{option_or}
use Rattle.indicatif_bar.specs.declared.ask.Ask.{Ask}
use Rattle.indicatif_bar.specs.declared.ask.Ask.TheVariants.{No, Unforced, Forced}
use Rattle.indicatif_bar.specs.Measures.{greatest_u64, recorded}
use Rattle.indicatif_bar.specs.PositionLimiters.{PositionLimiter, position_limiter, allow_position, position_reset}
use Rattle.indicatif_bar.specs.Progress.{Progress, new_progress, is_finished, elapsed, rate_reset, progress_reset}
use Rattle.indicatif_bar.specs.Tabs.{has_tab, is_some_text}
use Rattle.indicatif_bar.specs.Trackers.{Tracking, changed_trackers}
use Rattle.indicatif_bar.specs.Styles.{BarStyle}
use Rattle.indicatif_bar.specs.declared.state.commands.BarCommand.{BarCommand}
use Rattle.indicatif_bar.specs.declared.state.commands.BarCommand.TheVariants as told
use Rattle.indicatif_bar.specs.Finishes.{BarFinish, AndClear, finish_as, finished_by, finish_takes_memory}

pub record BarRecord (K : Type 0) : Type 0 where
  pub progress : Progress
  pub style : BarStyle K
  pub on_finish : BarFinish
  -- a steady ticker is installed
  pub ticker : Bool
  pub limiter : PositionLimiter

-- a command of a bar
pub data Command (K : Type 0) : Type 0 where
  Tick : Command K
  TickerTick : Command K
  SetTicker : (installed : Bool) → Command K
  Inc : (n : ℕ) → Command K
  Dec : (n : ℕ) → Command K
  SetPosition : (position : ℕ) → Command K
  -- what the caller's closure returned: a position and a length, if any
  Update : (position : Option ℕ) → (len : Option ℕ) → Command K
  SetLength : (n : ℕ) → Command K
  UnsetLength : Command K
  IncLength : (n : ℕ) → Command K
  DecLength : (n : ℕ) → Command K
  SetMessage : (text : List ℕ) → Command K
  SetPrefix : (text : List ℕ) → Command K
  SetStyle : (style : BarStyle K) → Command K
  WithPosition : (position : ℕ) → Command K
  WithMessage : (text : List ℕ) → Command K
  WithPrefix : (text : List ℕ) → Command K
  WithFinish : (finish : BarFinish) → Command K
  WithTabWidth : (tab : ℕ) → Command K
  SetTabWidth : (tab : ℕ) → Command K
  SetElapsed : (nanos : ℕ) → Command K
  ResetEta : Command K
  ResetElapsed : Command K
  Reset : Command K
  Finish : (finish : BarFinish) → Command K
  FinishUsingStyle : Command K
  ForceDraw : Command K

-- ---- parts of a record

-- a new record, in a style
abbrev pub new_bar : {K : Type 0} → BarStyle K → Option ℕ → ℕ → BarRecord K
new_bar style len now = record {
  progress = new_progress len now;
  style = record style { tab = 8 };
  on_finish = AndClear;
  ticker = false;
  limiter = position_limiter now;
}

-- the record with its trackers changed
abbrev pub with_trackers : {K : Type 0} → (K → K) → BarRecord K → BarRecord K
with_trackers change bar = record bar { style = record bar.style { keys = changed_trackers change bar.style.keys } }

-- the draw to ask for: an unforced one, or a forced one if the bar is finished
abbrev pub redraw_ask : {K : Type 0} → BarRecord K → Ask
redraw_ask bar = if is_finished bar.progress then Forced else Unforced

-- the record, and the command wants a draw
abbrev pub asks_draw : {K : Type 0} → BarRecord K → BarRecord K × Ask
asks_draw bar = (bar, redraw_ask bar)

abbrev pub with_progress : {K : Type 0} → BarRecord K → Progress → BarRecord K
with_progress bar progress = record bar { progress = progress }

-- the record with another tab width, in its texts and its style
abbrev pub with_tab : {K : Type 0} → BarRecord K → ℕ → BarRecord K
with_tab bar tab = record bar { progress = record bar.progress { tab = tab }; style = record bar.style { tab = tab } }

-- ---- finishing

-- a finish stores the time since the start, and its draw is forced
abbrev pub finish : {K : Type 0} → BarFinish → BarRecord K → ℕ → BarRecord K × Ask
finish by bar now = (with_progress bar (finished_by by (record bar.progress { took = elapsed bar.progress now })), Forced)

-- ---- commands

module _ {K : Type 0} (m : Tracking K) where
  -- the position is recorded with the rate, the trackers tick, the command wants an unforced draw
  abbrev pub update : BarRecord K → ℕ → BarRecord K × Ask
  update bar now =
      let progress = record bar.progress { samples = recorded bar.progress.samples bar.progress.position now } in
      asks_draw (with_trackers (λ k. m.ticked k progress now) (with_progress bar progress))

  -- a tick, whether a ticker is installed or not
  abbrev pub ticker_tick : BarRecord K → ℕ → BarRecord K × Ask
  ticker_tick bar now = update (with_progress bar (record bar.progress { ticks = min (bar.progress.ticks + 1) greatest_u64 })) now

  -- a tick, which does nothing if a ticker is installed
  abbrev pub tick : BarRecord K → ℕ → BarRecord K × Ask
  tick bar now = if bar.ticker then (bar, No) else ticker_tick bar now

  -- a new position, and a tick if the position limiter allows it
  abbrev pub moved_to : ℕ → BarRecord K → ℕ → BarRecord K × Ask
  moved_to position bar now =
      let asked = allow_position bar.limiter now in
      let next = record bar { progress = record bar.progress { position = position }; limiter = asked.1 } in
      if asked.0 then tick next now else (next, No)

  abbrev pub with_length : Option ℕ → BarRecord K → ℕ → BarRecord K × Ask
  with_length len bar now = update (with_progress bar (record bar.progress { len = len })) now

  -- the record after a reset of everything
  abbrev pub reset : BarRecord K → ℕ → BarRecord K
  reset bar now =
      let progress = progress_reset bar.progress now in
      with_trackers (λ k. m.was_reset k progress now) (record bar { progress = progress; limiter = position_reset bar.limiter now })

  -- the record after a command at a moment, and the draw that it asks for
  abbrev pub obeyed : Command K → BarRecord K → ℕ → BarRecord K × Ask
  obeyed Tick bar now = tick bar now
  obeyed TickerTick bar now = ticker_tick bar now
  obeyed (SetTicker installed) bar now = (record bar { ticker = installed }, No)
  obeyed (Inc n) bar now = moved_to ((bar.progress.position + n) % 2 ^ 64) bar now
  obeyed (Dec n) bar now = moved_to ((bar.progress.position + 2 ^ 64 - n) % 2 ^ 64) bar now
  obeyed (SetPosition position) bar now = moved_to position bar now
  obeyed (Update position len) bar now =
      tick (with_progress bar (record bar.progress { position = unwrap_or position bar.progress.position; len = option_or len bar.progress.len })) now
  obeyed (SetLength n) bar now = with_length (Some n) bar now
  obeyed UnsetLength bar now = with_length None bar now
  obeyed (IncLength n) bar now = with_length (option_map (λ len. min (len + n) greatest_u64) bar.progress.len) bar now
  obeyed (DecLength n) bar now = with_length (option_map (λ len. len - n) bar.progress.len) bar now
  obeyed (SetMessage text) bar now = update (with_progress bar (record bar.progress { message = text })) now
  obeyed (SetPrefix text) bar now = update (with_progress bar (record bar.progress { prefix = text })) now
  obeyed (SetStyle style) bar now = (record bar { style = record style { tab = bar.progress.tab } }, No)
  obeyed (WithPosition position) bar now = (with_progress bar (record bar.progress { position = position }), No)
  obeyed (WithMessage text) bar now = (with_progress bar (record bar.progress { message = text }), No)
  obeyed (WithPrefix text) bar now = (with_progress bar (record bar.progress { prefix = text }), No)
  obeyed (WithFinish by) bar now = (record bar { on_finish = by }, No)
  obeyed (WithTabWidth tab) bar now = (with_tab bar tab, No)
  obeyed (SetTabWidth tab) bar now = (with_tab bar tab, Forced)
  obeyed (SetElapsed nanos) bar now = (if nat_lt now nanos then bar else with_progress bar (record bar.progress { start = now - nanos }), No)
  obeyed ResetEta bar now = (with_progress bar (rate_reset bar.progress now), No)
  obeyed ResetElapsed bar now = (with_progress bar (record (rate_reset bar.progress now) { start = now }), No)
  obeyed Reset bar now = asks_draw (reset bar now)
  obeyed (Finish by) bar now = finish by bar now
  obeyed FinishUsingStyle bar now = finish bar.on_finish bar now
  obeyed ForceDraw bar now = (bar, Forced)

-- the record after its owner is gone, and the draw that this asks for
abbrev pub after_drop : {K : Type 0} → BarRecord K → ℕ → BarRecord K × Ask
after_drop bar now = if is_finished bar.progress then (bar, No) else finish bar.on_finish bar now

-- a command that is refused and changes nothing: an elapsed time beyond the moment
abbrev pub is_beyond_clock : {K : Type 0} → Command K → ℕ → Bool
is_beyond_clock (SetElapsed nanos) now = nat_lt now nanos
is_beyond_clock _ now = false

-- ---- memory

-- another tab width takes memory, unless the texts have no tabs and the style already has that width
abbrev pub width_takes_memory : {K : Type 0} → ℕ → BarRecord K → Bool
width_takes_memory tab bar = has_tab bar.progress.message || (has_tab bar.progress.prefix || not (tab == bar.style.tab))

-- whether a command of a bar takes memory: one that sets a text that isn't empty, a style with another tab width, or a tab width
abbrev pub takes_memory : {K : Type 0} → Command K → BarRecord K → Bool
takes_memory (SetMessage text) bar = is_some_text text
takes_memory (SetPrefix text) bar = is_some_text text
takes_memory (WithMessage text) bar = is_some_text text
takes_memory (WithPrefix text) bar = is_some_text text
takes_memory (SetStyle style) bar = not (bar.progress.tab == style.tab)
takes_memory (WithTabWidth tab) bar = width_takes_memory tab bar
takes_memory (SetTabWidth tab) bar = width_takes_memory tab bar
takes_memory (Finish by) bar = finish_takes_memory by
takes_memory FinishUsingStyle bar = finish_takes_memory bar.on_finish
takes_memory _ bar = false

-- a copy of a command takes memory if it has a style, or a text that isn't empty
abbrev pub copy_takes_memory : {K : Type 0} → Command K → Bool
copy_takes_memory (SetMessage text) = is_some_text text
copy_takes_memory (SetPrefix text) = is_some_text text
copy_takes_memory (WithMessage text) = is_some_text text
copy_takes_memory (WithPrefix text) = is_some_text text
copy_takes_memory (SetStyle style) = true
copy_takes_memory (WithFinish by) = finish_takes_memory by
copy_takes_memory (Finish by) = finish_takes_memory by
copy_takes_memory _ = false

-- ---- commands as values

-- the command that a value stands for, by the bytes of its text
abbrev pub command_as : {K S : Type 0} → (S → List ℕ) → BarCommand K S → Command K
command_as bytes told.Tick = Tick
command_as bytes told.TickerTick = TickerTick
command_as bytes (told.SetTicker installed) = SetTicker installed
command_as bytes (told.Inc n) = Inc n
command_as bytes (told.Dec n) = Dec n
command_as bytes (told.SetPosition position) = SetPosition position
command_as bytes (told.Update change) = Update change.pos change.len
command_as bytes (told.SetLength n) = SetLength n
command_as bytes told.UnsetLength = UnsetLength
command_as bytes (told.IncLength n) = IncLength n
command_as bytes (told.DecLength n) = DecLength n
command_as bytes (told.SetMessage text) = SetMessage (bytes text)
command_as bytes (told.SetPrefix text) = SetPrefix (bytes text)
command_as bytes (told.SetStyle style) = SetStyle style
command_as bytes (told.WithPosition position) = WithPosition position
command_as bytes (told.WithMessage text) = WithMessage (bytes text)
command_as bytes (told.WithPrefix text) = WithPrefix (bytes text)
command_as bytes (told.WithFinish finish) = WithFinish (finish_as string_bytes finish)
command_as bytes (told.WithTabWidth tab) = WithTabWidth tab
command_as bytes (told.SetTabWidth tab) = SetTabWidth tab
command_as bytes (told.SetElapsed nanos) = SetElapsed nanos
command_as bytes told.ResetEta = ResetEta
command_as bytes told.ResetElapsed = ResetElapsed
command_as bytes told.Reset = Reset
command_as bytes (told.Finish by) = Finish (finish_as bytes by)
command_as bytes told.FinishUsingStyle = FinishUsingStyle
command_as bytes told.ForceDraw = ForceDraw

-- the command that a value with its own text stands for
abbrev pub command_of : {K : Type 0} → BarCommand K (String Global) → Command K
command_of command = command_as string_bytes command
