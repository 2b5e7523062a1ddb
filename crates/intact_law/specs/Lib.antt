pub mod Intact
pub mod Examples
