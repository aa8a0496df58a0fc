pub mod Continues
pub mod Together
pub mod Singles
pub mod Nulls
pub mod Held
pub mod Smallest
pub mod Beyond
pub mod Values
