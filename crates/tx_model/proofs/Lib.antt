pub mod Names
pub mod Merging
pub mod Batches
pub mod Admission
pub mod CleanLogs
pub mod RisingIds
pub mod Walks
pub mod RecordFrames
