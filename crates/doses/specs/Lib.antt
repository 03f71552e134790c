pub mod Dose
pub mod Clips
