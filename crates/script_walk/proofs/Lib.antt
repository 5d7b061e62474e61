pub mod Walking
pub mod Bound
pub mod Short
