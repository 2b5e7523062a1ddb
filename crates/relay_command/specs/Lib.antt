pub mod Gathered
pub mod Relaying
