pub mod Division
pub mod Roots
pub mod TableRows
pub mod Parts
pub mod Rings
pub mod Rounds
