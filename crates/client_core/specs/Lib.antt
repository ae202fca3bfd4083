pub mod Clients
pub mod States
pub mod Building
pub mod Applied
