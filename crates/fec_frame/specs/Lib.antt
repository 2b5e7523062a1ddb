pub mod Marks
pub mod Marking
pub mod Filled
pub mod Stands
pub mod Runs
