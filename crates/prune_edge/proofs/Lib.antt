pub mod Settling
pub mod Climbing
