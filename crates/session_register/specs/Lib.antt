pub mod Registers
pub mod Telling
pub mod Values
pub mod Disks
