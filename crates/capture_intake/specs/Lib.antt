pub mod Wanted
pub mod Taken
pub mod Ends
pub mod Steps
