pub mod Filling
pub mod Found
pub mod Taking
