pub mod Faults
pub mod Growth
pub mod Outlets
pub mod Files
pub mod Flushes
