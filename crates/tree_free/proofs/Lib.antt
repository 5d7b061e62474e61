pub mod Freeing
pub mod Root
