pub mod Tally
pub mod Writing
pub mod Sending
pub mod Gathering
pub mod Lines
