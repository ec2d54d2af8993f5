pub mod Uses
pub mod Escaping
pub mod Links
pub mod glue
pub mod laws
