pub mod Limit
pub mod Kind
pub mod Name
pub mod Seen
pub mod RecordData
pub mod Record
