pub mod Lined
pub mod Chosen
pub mod Walk
