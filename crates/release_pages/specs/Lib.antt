pub mod Pages
pub mod Releasable
