pub mod Kept
pub mod Quiet
pub mod Young
pub mod NoQuorum
pub mod Recovered
pub mod Winning
pub mod Sanity
