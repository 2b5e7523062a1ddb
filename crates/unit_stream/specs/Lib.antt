pub mod Form
pub mod Joining
pub mod States
pub mod Steps
pub mod Telling
pub mod Packing
pub mod Packers
pub mod Parts
