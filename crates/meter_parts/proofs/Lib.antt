mod PassingLemmas
mod PlainLemmas
