pub mod Ratios
pub mod Sizes
pub mod Choice
pub mod Halves
