pub mod Records
pub mod Read
