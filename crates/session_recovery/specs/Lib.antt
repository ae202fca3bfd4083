pub mod Known
pub mod KnownBy
pub mod Drafts
pub mod Sound
pub mod Recovering
pub mod RecoveredBy
