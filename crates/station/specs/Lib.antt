pub mod Faults
pub mod Account
pub mod States
