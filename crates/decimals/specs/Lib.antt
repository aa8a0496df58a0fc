pub mod Decimals
pub mod Tests
pub mod Conversion
pub mod Numbers
