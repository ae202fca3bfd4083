pub mod Contents
pub mod Layout
