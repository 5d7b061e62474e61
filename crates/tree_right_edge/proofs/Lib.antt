pub mod Edges
pub mod Turns
pub mod Positions
