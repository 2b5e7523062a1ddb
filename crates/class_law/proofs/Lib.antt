pub mod Ongoing
pub mod Obeyed
pub mod Packed
pub mod Streams
pub mod Small
