pub mod Ends
pub mod Storages
pub mod Registers
pub mod Working
