pub mod Puts
pub mod Batches
pub mod Sorted
pub mod Held
pub mod Ending
