pub mod Following
pub mod Passes
pub mod Exactly
pub mod Unique
