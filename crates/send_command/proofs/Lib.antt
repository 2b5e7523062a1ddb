pub mod Puts
pub mod Given
pub mod Taken
pub mod Counts
pub mod Written
pub mod Standing
