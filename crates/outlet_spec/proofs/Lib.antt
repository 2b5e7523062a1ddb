pub mod Pairs
pub mod Going
