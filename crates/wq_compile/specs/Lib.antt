pub mod Instruction
pub mod Draft
pub mod Code
pub mod Large
pub mod Meaning
pub mod Cost
pub mod Law
