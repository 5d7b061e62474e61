pub mod Pivot
pub mod Deciding
pub mod ByLedger
pub mod Unique
pub mod EmptyLedger
