pub mod Runs
pub mod Numbers
mod Steps
mod Shapes
mod Whole
pub mod Above
pub mod Maps
pub mod Accepted
