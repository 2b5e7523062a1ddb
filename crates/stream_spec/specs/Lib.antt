pub mod Units
pub mod Slots
pub mod Windows
pub mod Parts
pub mod Stream
pub mod Services
pub mod Standing
pub mod Examples
