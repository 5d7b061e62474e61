pub mod Run
pub mod Table
pub mod Damaged
pub mod Written
