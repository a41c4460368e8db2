pub mod Limit
pub mod Item
pub mod Stack
pub mod Run
pub mod Stands
