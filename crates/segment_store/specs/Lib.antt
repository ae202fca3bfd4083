pub mod Records
pub mod Index
pub mod Loading
