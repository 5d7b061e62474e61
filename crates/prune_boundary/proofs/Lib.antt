pub mod Behind
pub mod Goes
pub mod Boundary
pub mod Went
pub mod Joined
pub mod Distinct
pub mod Climbs
pub mod Settled
