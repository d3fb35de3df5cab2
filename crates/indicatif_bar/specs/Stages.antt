-- What contracts see of a stage: its terminal, the limiter and the rows that it may have, and what is written on it.
use Rattle.std.specs.Prelude.{◌≡◌, Bool, Option, MatchOption, option_map}
use Rattle.indicatif_term.specs.Calls.{TermView}
use Rattle.indicatif_term.specs.Limiters.{Limiter}
use Rattle.indicatif_term.specs.Lists.{Lists, opening_lists}
use Rattle.indicatif_term.specs.Lines.{text_lines, logged_lines}
use Rattle.indicatif_term.specs.Engines.{engine_moves, engine_term, Fits}
use Rattle.indicatif_bar.specs.Kinds.{Writing, Frame, TextAndFrame, NoFrame}
use Rattle.indicatif_bar.specs.declared.stage.Stage.{Stage}
use Rattle.indicatif_bar.specs.declared.stage.Writing.{Writing as WritingValue}
use Rattle.indicatif_bar.specs.declared.stage.Writing.TheVariants.{Frame as FrameValue, TextAndFrame as TextValue, NoFrame as NoValue}

module _ {T : Type 0} where
  -- its terminal; none if the target is hidden
  abbrev pub stage_terminal : Stage T → Option T
  stage_terminal stage = option_map engine_term stage.engine

  -- the view of its terminal
  abbrev pub stage_known : (T → TermView) → Stage T → Option TermView
  stage_known view stage = option_map view (stage_terminal stage)

  -- whether its draws use cursor moves alone, if that shows the same; nothing if the target is hidden
  abbrev pub stage_moves : Stage T → Option Bool
  stage_moves stage = option_map engine_moves stage.engine

  -- it has this limiter, and may have the rows of these lists; on a hidden target it has no rows
  abbrev pub IsStaged : Stage T → Option Limiter → Lists → Type 0
  IsStaged stage limiter l = (stage.limiter ≡ limiter) × MatchOption stage.engine (l ≡ opening_lists) (λ e. Fits e l)

-- what is written
abbrev pub writing_as : WritingValue → Writing
writing_as FrameValue = Frame
writing_as (TextValue text) = TextAndFrame (text_lines (logged_lines text.now))
writing_as NoValue = NoFrame
