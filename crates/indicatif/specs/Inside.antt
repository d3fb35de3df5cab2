-- What only the contracts of private functions cite.
pub mod AnyBar
pub mod AnyBoard
pub mod Courses
pub mod PartAnswers
pub mod LockedBar
pub mod Pieces
pub mod PositionChange
pub mod Requests
pub mod SharedBoards
