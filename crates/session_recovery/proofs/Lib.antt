pub mod Choosing
pub mod Counts
pub mod Knowing
pub mod SoundSteps
pub mod Recoveries
