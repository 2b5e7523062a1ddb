mod Moments
mod Limits
mod Opened
mod Same
mod Sent
mod Carried
mod FramesLeft
mod FramesSent
