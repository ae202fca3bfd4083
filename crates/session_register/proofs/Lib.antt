pub mod Framed
pub mod Written
pub mod Loaded
