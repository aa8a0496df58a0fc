pub mod OneOutcome
pub mod Settling
pub mod Empties
pub mod Readings
pub mod Makings
pub mod Updates
