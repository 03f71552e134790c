pub mod Levels
pub mod Counts
pub mod Totals
pub mod Means
pub mod Extents
pub mod Lacks
pub mod Tallies
