mod Counted
mod Newlines
mod FixedOutputs
mod Rooted
pub mod Shelves
mod Strings
mod Triggers
pub mod Ending
mod Again
mod Accepting
pub mod Adding
pub mod Finishing
pub mod Held
pub mod Readying
mod Programs
pub mod Before
mod Follows
mod Called
mod Placed
mod Polled
mod Moments
pub mod Rounds
mod Listing
mod NoFloat
pub mod Reaching
mod Staying
mod Handing
mod Going
pub mod Lines
