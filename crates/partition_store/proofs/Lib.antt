pub mod Left
mod Same
pub mod Durable
mod Entered
mod Numbers
mod Begun
mod Whole
mod Aside
mod Staged
mod Answered
mod Chains
mod Ready
mod Adopted
mod Added
mod Finding
mod ReadAnswers
pub mod Taken
pub mod Legal
pub mod Places
pub mod FirmFiles
pub mod Trimmed
pub mod Loads
