pub mod Lacking
pub mod Forward
pub mod Caught
pub mod Machines
