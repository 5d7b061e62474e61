pub mod Deciding
pub mod Unique
