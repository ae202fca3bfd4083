pub mod Places
pub mod Parts
pub mod Pieces
pub mod Touches
pub mod Numbers
pub mod WellLocked
