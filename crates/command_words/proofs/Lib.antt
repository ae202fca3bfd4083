pub mod NumberWords
pub mod PlainWords
pub mod ServerWords
pub mod Matches
