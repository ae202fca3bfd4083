pub mod Tables
pub mod Layout
