pub mod Timing
pub mod Bursts
pub mod Frames
