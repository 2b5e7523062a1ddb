pub mod Rows
pub mod Sums
pub mod Unique
pub mod Elimination
pub mod Tables
