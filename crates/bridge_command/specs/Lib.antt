pub mod Tally
pub mod Bridging
pub mod Lines
pub mod Writing
pub mod Holding
pub mod Ended
