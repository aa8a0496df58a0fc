pub mod Scans
pub mod NormalForm
pub mod Fixed
