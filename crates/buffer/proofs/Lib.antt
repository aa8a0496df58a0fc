pub mod Laws
pub mod Cases
pub mod Loops
pub mod Compared
pub mod Finding
