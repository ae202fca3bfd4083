pub mod Seen
pub mod StorageRuns
pub mod RegisterRuns
pub mod NotLoaded
