pub mod Horner
pub mod Places
pub mod Lookup
pub mod ByHalves
