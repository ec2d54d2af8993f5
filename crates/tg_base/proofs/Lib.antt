pub mod LineLemmas
pub mod KnownLemmas
pub mod ProductLaws
mod ProductBits
pub mod TopBits
pub mod FileLemmas
pub mod NameLemmas
