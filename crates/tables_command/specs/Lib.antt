pub mod Writing
pub mod Pids
