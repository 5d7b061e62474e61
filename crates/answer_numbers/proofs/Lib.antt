pub mod Cases
pub mod Encoding
