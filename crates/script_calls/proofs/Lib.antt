pub mod Performing
pub mod Suffice
