pub mod Writing
pub mod Equation
