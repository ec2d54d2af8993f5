pub mod DelayedRun
pub mod laws
