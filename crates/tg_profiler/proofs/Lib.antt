mod Vectors
pub mod Pieces
pub mod Telling
mod Seeing
mod CoveredPlaces
mod LastFetches
mod RowCounts
mod WatchedRuns
