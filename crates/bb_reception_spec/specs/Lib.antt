pub mod Delivered
pub mod Numbers
pub mod Examples
