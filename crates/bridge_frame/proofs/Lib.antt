pub mod Heard
pub mod Records
pub mod Placed
pub mod Readings
pub mod Baseband
pub mod Taken
