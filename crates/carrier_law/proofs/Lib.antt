pub mod Pids
pub mod Cases
