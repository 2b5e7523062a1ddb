pub mod Refusal
pub mod Destination
pub mod Hint
pub mod Held
