pub mod Moving
pub mod Filled
pub mod Slots
pub mod Fuel
pub mod Simulation
pub mod Turning
pub mod Delaying
pub mod SlotReturns
pub mod StayingOver
mod Examples
