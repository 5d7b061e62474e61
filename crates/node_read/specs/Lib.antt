pub mod Layout
pub mod Store
