pub mod Writing
pub mod Unbridging
pub mod Parts
