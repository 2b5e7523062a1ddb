pub mod CheckSum
pub mod Written
pub mod Lengths
pub mod Heads
