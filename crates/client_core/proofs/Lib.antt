pub mod Orders
pub mod Builds
pub mod Refusals
pub mod Covered
pub mod Doubles
pub mod Told
pub mod Applying
