pub mod AsRecords
pub mod Limits
pub mod Receiving
pub mod Answered
