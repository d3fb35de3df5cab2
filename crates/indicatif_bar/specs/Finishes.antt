-- How a bar is finished. Texts are lists of bytes in UTF-8.
use Rattle.std.specs.declared.string.String.{String}
use Rattle.std.specs.declared.alloc.Global.{Global}
use Rattle.std.specs.Prelude.{ℕ, Bool, false, List, string_bytes}
use Rattle.indicatif_bar.specs.declared.progress.Status.TheVariants.{DoneVisible, DoneHidden}
use Rattle.indicatif_bar.specs.declared.finish.ProgressFinish.{ProgressFinish}
use Rattle.indicatif_bar.specs.declared.finish.ProgressFinish.TheVariants as by
use Rattle.indicatif_bar.specs.Tabs.{is_some_text}
use Rattle.indicatif_bar.specs.Progress.{Progress, at_end}

-- how a bar is finished
pub data BarFinish : Type 0 where
  AndLeave : BarFinish
  WithMessage : (text : List ℕ) → BarFinish
  AndClear : BarFinish
  Abandon : BarFinish
  AbandonWithMessage : (text : List ℕ) → BarFinish

-- the finish that a value stands for, by the bytes of its message
abbrev pub finish_as : {S : Type 0} → (S → List ℕ) → ProgressFinish S → BarFinish
finish_as bytes by.AndLeave = AndLeave
finish_as bytes (by.WithMessage text) = WithMessage (bytes text)
finish_as bytes by.AndClear = AndClear
finish_as bytes by.Abandon = Abandon
finish_as bytes (by.AbandonWithMessage text) = AbandonWithMessage (bytes text)

-- the finish that a value with its own message stands for
abbrev pub finish_of : ProgressFinish (String Global) → BarFinish
finish_of finish = finish_as string_bytes finish

-- the progress after a finish
abbrev pub finished_by : BarFinish → Progress → Progress
finished_by AndLeave p = record (at_end p) { status = DoneVisible }
finished_by (WithMessage text) p = record (at_end p) { status = DoneVisible; message = text }
finished_by AndClear p = record (at_end p) { status = DoneHidden }
finished_by Abandon p = record p { status = DoneVisible }
finished_by (AbandonWithMessage text) p = record p { status = DoneVisible; message = text }

-- a finish that sets a message takes memory for it, unless it is empty
abbrev pub finish_takes_memory : BarFinish → Bool
finish_takes_memory (WithMessage text) = is_some_text text
finish_takes_memory (AbandonWithMessage text) = is_some_text text
finish_takes_memory _ = false
