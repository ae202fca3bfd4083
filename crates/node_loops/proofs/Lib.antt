pub mod Whole
pub mod Printing
pub mod Turning
pub mod RegisterLemmas
pub mod Serves
pub mod Counted
