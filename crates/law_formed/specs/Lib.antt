pub mod Well
pub mod Formed
pub mod Holds
pub mod Visits
