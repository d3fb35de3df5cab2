pub mod Inside
pub mod Pace
pub mod Passing
pub mod Plain
