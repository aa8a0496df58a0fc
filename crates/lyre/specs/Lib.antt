pub mod Told
pub mod Statuses
