pub mod Writing
pub mod FromHeader
pub mod Unique
