pub mod Parts
pub mod Packets
pub mod Timed
pub mod Room
pub mod Ends
pub mod Bursts
