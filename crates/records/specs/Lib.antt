pub mod Empty
pub mod Counts
pub mod Walk
pub mod Where
pub mod Places
pub mod Paths
