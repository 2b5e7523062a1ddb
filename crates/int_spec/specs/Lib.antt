pub mod Descriptors
pub mod Table
pub mod Reading
pub mod Pieces
pub mod Loops
pub mod Versions
pub mod Examples
