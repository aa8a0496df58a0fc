pub mod Firsts
pub mod Turns
pub mod Asking
pub mod Entries
pub mod Passing
pub mod Staging
pub mod Finding
pub mod Kept
