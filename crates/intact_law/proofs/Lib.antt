pub mod Chosen
pub mod Apart
pub mod Found
pub mod Received
pub mod ByService
pub mod Pdus
pub mod AllIntact
pub mod SmallErrors
