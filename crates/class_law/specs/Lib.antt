pub mod Yielding
pub mod Examples
