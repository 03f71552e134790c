pub mod Paintings
pub mod Changes
