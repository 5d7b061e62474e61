pub mod Walking
