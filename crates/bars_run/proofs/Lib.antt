mod LineLemmas
mod PlainLemmas
mod PlainScriptLemmas
mod PlayLemmas
mod PrintLemmas
mod ReadLemmas
mod StandLemmas
mod WordLemmas
