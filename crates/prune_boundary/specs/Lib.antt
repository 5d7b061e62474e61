pub mod Behind
pub mod Edge
pub mod Trims
