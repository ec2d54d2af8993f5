pub mod DeclaredFunctions
pub mod Headings
pub mod LaterRounds
pub mod Shown
pub mod Programs
pub mod glue
