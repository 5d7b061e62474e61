pub mod CanFree
