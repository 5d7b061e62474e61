pub mod FromRoot
pub mod WithEnds
pub mod Exact
