pub mod Clusters
pub mod Events
pub mod Briefs
pub mod Pools
