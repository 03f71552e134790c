pub mod Faults
pub mod Classes
pub mod Listing
