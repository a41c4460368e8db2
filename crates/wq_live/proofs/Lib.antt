mod Finding
pub mod Roots
pub mod Events
mod Starts
pub mod Passes
mod Since
mod Ends
mod FirstView
mod FirstPasses
pub mod Beginnings
mod Adding
mod Comparing
mod Sharing
mod Spending
mod Fullness
