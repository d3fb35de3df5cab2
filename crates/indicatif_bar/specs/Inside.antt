-- What only the contracts of private functions cite.
pub mod Lone
pub mod Shown
pub mod Bars
pub mod Steps
pub mod Texts
pub mod Progress
pub mod TabbedTexts
