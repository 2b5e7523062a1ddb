pub mod Sent
pub mod Runs
pub mod Arrives
pub mod Bridged
