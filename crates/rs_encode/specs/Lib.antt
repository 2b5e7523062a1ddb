pub mod Division
pub mod Ring
pub mod Encoding
