pub mod LinesRun
pub mod Setting
pub mod glue
pub mod laws
