pub mod Limit
pub mod Runs
pub mod Inputs
pub mod Command
pub mod FailingStarts
pub mod StartedRun
pub mod Launching
