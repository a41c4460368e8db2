pub mod Names
mod Keys
mod Paths
mod Globs
pub mod Grammar
mod Subscribed
