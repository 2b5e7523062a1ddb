pub mod Known
pub mod Sends
pub mod Receives
pub mod Relays
pub mod Bridges
