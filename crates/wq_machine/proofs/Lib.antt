pub mod Slots
pub mod Parts
pub mod Operands
pub mod Loading
pub mod Turning
pub mod Runs
