pub mod Ends
pub mod Replays
pub mod Served
pub mod Partitions
pub mod Numbered
