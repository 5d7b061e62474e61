pub mod Lengths
pub mod Performed
