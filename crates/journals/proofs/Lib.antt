pub mod Stepping
pub mod Replaying
pub mod Telling
