pub mod Arguments
pub mod Cases
pub mod Commands
pub mod Fault
pub mod Inside
pub mod Player
pub mod Printing
