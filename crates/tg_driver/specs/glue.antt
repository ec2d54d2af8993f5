pub mod Texts
pub mod Readings
pub mod Plainly
pub mod Found
pub mod Watched
pub mod PrivateCalls
pub mod Explanations
pub mod Delays
