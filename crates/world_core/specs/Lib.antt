pub mod Kept
pub mod Tallies
pub mod Noted
pub mod Told
pub mod Fit
pub mod Files
pub mod Deliveries
pub mod Stepping
