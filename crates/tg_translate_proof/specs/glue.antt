pub mod Tables
pub mod Covered
pub mod Worlds
pub mod Situations
pub mod Shown
