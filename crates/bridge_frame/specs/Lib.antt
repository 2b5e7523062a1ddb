pub mod Handing
pub mod Sndus
pub mod Pdus
pub mod Bridge
pub mod Units
pub mod Taking
pub mod Untaken
