-- The definitions of document 01, in its order.
pub mod Words
pub mod Tree
pub mod Reading
pub mod Refusals
pub mod Paths
pub mod WellFormed
pub mod Create
pub mod Lookup
pub mod Append
pub mod Cut
pub mod Prune
pub mod LeafWalk
pub mod Release
pub mod FullCheck
pub mod Ledger
