pub mod Letters
pub mod Constants
