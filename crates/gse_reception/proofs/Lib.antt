pub mod Counted
pub mod Packets
pub mod Outlets
pub mod UnderWay
pub mod Frames
pub mod OtherFrames
