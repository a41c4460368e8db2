pub mod Candidate
pub mod Union
pub mod Counted
pub mod Depth
pub mod Outer
