-- for the passes above too
pub mod Reach
pub mod Numbers
pub mod LiveExamples
mod Defining
mod Turned
mod Places
mod Marked
mod Searched
mod Changing
mod Noted
mod Gathered
mod Collected
mod Closed
