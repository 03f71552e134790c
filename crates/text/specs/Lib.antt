pub mod Fills
pub mod Texts
