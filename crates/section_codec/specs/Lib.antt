pub mod Views
pub mod Spans
pub mod Heads
