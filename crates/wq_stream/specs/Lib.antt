pub mod Limit
pub mod Stream
pub mod Line
pub mod Told
pub mod Law
pub mod Queue
pub mod Inbox
