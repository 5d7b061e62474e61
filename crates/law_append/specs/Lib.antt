pub mod Needed
pub mod Grown
pub mod Inserted
pub mod Created
