-- The units of time of the code, as the definitions'.
use Rattle.indicatif_text.specs.Format.{TimeSpan, year, week, day, hour, minute, second}
use Rattle.indicatif_text.specs.declared.format.durations.TimeUnit.{TimeUnit}
use Rattle.indicatif_text.specs.declared.format.durations.TimeUnit.TheVariants.{Year, Week, Day, Hour, Minute, Second}

-- the unit with a name
abbrev pub span_of : TimeUnit → TimeSpan
span_of Year = year
span_of Week = week
span_of Day = day
span_of Hour = hour
span_of Minute = minute
span_of Second = second
