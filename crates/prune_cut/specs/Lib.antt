pub mod Found
pub mod Writable
