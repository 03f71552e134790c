pub mod Faults
pub mod Format
pub mod Grammar
pub mod Machine
pub mod Within
