pub mod Datagrams
pub mod More
