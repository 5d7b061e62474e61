pub mod Cutting
pub mod Pruned
