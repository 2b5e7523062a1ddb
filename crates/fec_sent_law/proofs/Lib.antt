pub mod Rows
pub mod Tables
pub mod Fitting
pub mod Macs
pub mod Sent
pub mod Carried
