pub mod Carried
pub mod Laws
pub mod Heads
pub mod Traced
