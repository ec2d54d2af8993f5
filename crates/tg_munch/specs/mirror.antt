pub mod Arguments
pub mod Bodies
pub mod Choosing
pub mod Comparing
pub mod Munching
pub mod Products
pub mod Tiles
