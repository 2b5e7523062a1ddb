pub mod Frames
pub mod Counting
pub mod Steps
pub mod Reading
pub mod Reception
pub mod Hearing
