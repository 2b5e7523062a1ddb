pub mod Ends
pub mod Records
pub mod Pdus
pub mod Frames
