pub mod Entries
pub mod Validity
pub mod Places
pub mod Groups
