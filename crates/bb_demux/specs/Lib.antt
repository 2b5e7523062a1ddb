pub mod Counts
pub mod Receiving
pub mod Finding
pub mod Taking
pub mod Untaken
