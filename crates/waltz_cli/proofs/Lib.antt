pub mod CommandWords
pub mod Printing
pub mod Statuses
pub mod Numbers
pub mod OneCommand
