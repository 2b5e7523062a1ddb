pub mod Draws
pub mod Datagrams
pub mod Summary
