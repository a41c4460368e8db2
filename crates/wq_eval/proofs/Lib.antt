pub mod Answers
pub mod Costs
pub mod Whole
