pub mod Services
pub mod Carried
pub mod Counting
pub mod Taking
pub mod Reception
pub mod Table
