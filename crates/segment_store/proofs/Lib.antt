pub mod Indexing
pub mod Damaged
pub mod Noted
pub mod Loaded
pub mod Encoded
pub mod Appended
pub mod Got
pub mod Staged
