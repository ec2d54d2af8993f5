mod Examples
pub mod Walks
pub mod Sides
pub mod Naming
pub mod Closing
pub mod Shaping
pub mod Shrinking
pub mod Sizing
pub mod Leaving
pub mod Paying
pub mod Copying
pub mod Doing
pub mod Bodies
