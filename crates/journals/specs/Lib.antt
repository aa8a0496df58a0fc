pub mod Journal
pub mod Replay
pub mod Carried
