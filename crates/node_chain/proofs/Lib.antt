pub mod Links
pub mod Listed
