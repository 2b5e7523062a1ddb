pub mod Pairs
pub mod Written
pub mod Captured
pub mod Received
pub mod Counted
pub mod Parted
pub mod Lines
pub mod Longer
