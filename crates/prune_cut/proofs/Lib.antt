pub mod Taken
pub mod Outside
pub mod Order
pub mod Written
pub mod Edges
