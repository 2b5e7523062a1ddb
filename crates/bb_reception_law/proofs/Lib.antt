pub mod Services
pub mod FrameByFrame
