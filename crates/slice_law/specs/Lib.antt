pub mod Carried
pub mod Cycles
pub mod Plans
pub mod Packets
pub mod Kept
