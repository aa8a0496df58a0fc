pub mod Scanning
pub mod Pairs
pub mod Numbers
pub mod Ways
pub mod Taking
