pub mod Settings
pub mod Lines
pub mod Faults
