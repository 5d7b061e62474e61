pub mod Little
pub mod Ids
pub mod Heads
