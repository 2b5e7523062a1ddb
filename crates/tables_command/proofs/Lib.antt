pub mod Rising
pub mod Laid
pub mod Used
pub mod Going
pub mod Streams
pub mod Recorded
pub mod Ends
