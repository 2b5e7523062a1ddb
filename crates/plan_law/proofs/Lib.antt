pub mod Lists
pub mod Kept
pub mod Pids
pub mod Windows
pub mod Rules
pub mod Alone
pub mod Versions
pub mod Plans
