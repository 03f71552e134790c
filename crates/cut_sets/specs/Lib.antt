pub mod Bands
pub mod CutSums
pub mod Painted
pub mod Sets
