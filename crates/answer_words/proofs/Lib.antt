pub mod Filling
pub mod Telling
