pub mod Otsu
pub mod Search
