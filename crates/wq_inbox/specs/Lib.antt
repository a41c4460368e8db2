pub mod History
pub mod Queue
