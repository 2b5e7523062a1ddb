pub mod Frames
pub mod Grown
pub mod Written
pub mod Ended
pub mod Prefixes
