pub mod Machine
pub mod OnMachine
pub mod Keeping
pub mod Agreeing
pub mod Emitted
pub mod Images
pub mod LongCode
pub mod TurnedImages
pub mod DelayedImages
mod Examples
