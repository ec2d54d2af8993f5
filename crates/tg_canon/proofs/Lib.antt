mod CanonExamples
mod RunExamples
pub mod Sizing
pub mod Paying
pub mod Fixed
pub mod Steady
pub mod Splits
pub mod Sides
pub mod Helds
pub mod Words
pub mod Dones
pub mod Tests
pub mod Carried
pub mod Sized
pub mod Programs
pub mod Always
pub mod Canonicals
pub mod Closings
pub mod Steps
pub mod Nothings
pub mod Others
pub mod Arms
pub mod Walks
pub mod Growing
pub mod Cases
pub mod Naming
