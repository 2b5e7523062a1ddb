pub mod Keys
pub mod Changes
pub mod Settings
pub mod Refusal
pub mod Examples
