pub mod Begun
pub mod NextPiece
pub mod Received
