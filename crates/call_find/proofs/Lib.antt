pub mod Reach
pub mod Unique
