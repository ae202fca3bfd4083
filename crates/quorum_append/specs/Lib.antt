pub mod Acknowledgements
pub mod Kept
