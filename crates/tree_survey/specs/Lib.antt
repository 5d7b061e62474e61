pub mod Leaves
pub mod Ends
