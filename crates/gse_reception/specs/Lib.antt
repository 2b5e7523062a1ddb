pub mod Handling
pub mod Counting
pub mod Steps
pub mod Outlets
pub mod Reception
