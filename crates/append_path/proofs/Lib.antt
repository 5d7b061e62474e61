pub mod NewPaths
