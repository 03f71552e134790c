pub mod Raster
pub mod Firsts
pub mod Drawn
pub mod Grids
pub mod Bytes
pub mod Layers
pub mod Either
