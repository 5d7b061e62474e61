pub mod Firsts
pub mod Stepping
