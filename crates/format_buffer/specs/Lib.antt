pub mod Part
pub mod Elements
pub mod Numbers
pub mod Pieces
pub mod Texts
pub mod Syntax
