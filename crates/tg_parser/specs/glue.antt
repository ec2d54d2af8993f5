pub mod Deep
pub mod Given
pub mod Heads
pub mod Opens
pub mod Ranks
