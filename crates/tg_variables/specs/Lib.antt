pub mod Parts
pub mod Functions
pub mod Users
pub mod Places
pub mod Variables
pub mod glue
