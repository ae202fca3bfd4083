pub mod Ends
pub mod Requests
pub mod Serving
pub mod Storage
pub mod Registers
