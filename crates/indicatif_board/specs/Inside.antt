-- What only the contracts of private functions cite.
pub mod ShownBars
pub mod Leaving
pub mod Standing
pub mod Insertions
pub mod Calls
pub mod InWindow
