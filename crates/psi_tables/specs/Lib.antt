pub mod Views
pub mod Refusals
pub mod First
pub mod Watching
pub mod Text
pub mod Taking
pub mod Untaken
