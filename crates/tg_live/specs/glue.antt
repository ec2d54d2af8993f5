pub mod Definitions
pub mod Tables
pub mod LiveChanges
pub mod Marks
