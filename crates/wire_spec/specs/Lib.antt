pub mod Bytes
pub mod Lists
pub mod Causes
pub mod Content
pub mod BitPolynomials
pub mod Crc
pub mod Datagram
pub mod Examples
