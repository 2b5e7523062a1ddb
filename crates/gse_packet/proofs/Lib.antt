pub mod Readings
pub mod CheckSums
