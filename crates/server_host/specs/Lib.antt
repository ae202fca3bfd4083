pub mod Lacking
pub mod Bounds
pub mod Machines
pub mod Posts
