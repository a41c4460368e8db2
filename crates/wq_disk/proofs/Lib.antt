mod Below
pub mod Entries
mod Distinct
mod EachOnce
mod Cuts
