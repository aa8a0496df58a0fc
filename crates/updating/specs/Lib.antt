pub mod Laid
pub mod New
pub mod Member
