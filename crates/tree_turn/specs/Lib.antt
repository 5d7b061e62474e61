pub mod Left
pub mod Turn
pub mod Walk
pub mod Trace
