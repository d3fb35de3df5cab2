pub mod AnyWidth
pub mod Plain
pub mod Readings
