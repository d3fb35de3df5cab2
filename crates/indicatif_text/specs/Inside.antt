-- What only the contracts of private functions cite.
pub mod Draft
pub mod StoredParts
pub mod Durations
pub mod Range
pub mod Pieces
pub mod Quotients
pub mod Reading
pub mod Runs
pub mod Spans
pub mod StyleWords
