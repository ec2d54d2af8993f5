mod Examples
mod BlockExamples
mod TracesExamples
pub mod Backs
pub mod Turns
pub mod Rests
pub mod Depths
pub mod Places
pub mod Marks
pub mod Flats
pub mod Wholes
pub mod Costs
pub mod Measures
pub mod Names
pub mod TracesCode
pub mod TracesOrders
pub mod TracesLed
pub mod TracesStands
pub mod TracesRuns
pub mod TracesCarried
pub mod TracesNested
pub mod TracesLoops
pub mod TracesEntered
pub mod TracesHeads
pub mod TracesShapes
pub mod BlocksRuns
pub mod BlocksFlat
pub mod BlocksPlaces
pub mod BlocksKept
pub mod BlocksCarried
pub mod BlocksBodies
