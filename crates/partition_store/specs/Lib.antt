pub mod Stands
pub mod Stores
pub mod Found
pub mod Loading
