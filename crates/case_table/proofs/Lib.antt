pub mod Starred
pub mod OnDamaged
pub mod InWords
