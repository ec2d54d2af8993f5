pub mod Watching
pub mod Watchers
pub mod Words
pub mod Telling
pub mod Told
pub mod Reports
pub mod glue
