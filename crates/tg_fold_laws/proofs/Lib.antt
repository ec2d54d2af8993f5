mod Examples
pub mod Accesses
pub mod Depths
pub mod Frames
