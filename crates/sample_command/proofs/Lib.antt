pub mod Kept
pub mod Summed
pub mod Taking
pub mod Written
