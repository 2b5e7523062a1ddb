pub mod Held
pub mod Counting
pub mod Taking
pub mod Numbers
