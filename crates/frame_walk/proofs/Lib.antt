pub mod Found
pub mod Marked
