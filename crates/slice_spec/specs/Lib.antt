pub mod Moments
pub mod Sections
pub mod Frames
pub mod Windows
pub mod Bursts
