pub mod Eachs
pub mod Laws
pub mod Weights
pub mod Spans
pub mod Means
pub mod Chosen
pub mod Walks
pub mod Places
mod Lacks
