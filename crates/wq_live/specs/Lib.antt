pub mod Event
pub mod Table
pub mod Log
pub mod Shared
pub mod News
