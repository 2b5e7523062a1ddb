pub mod UnderWay
pub mod Records
pub mod Starts
pub mod Examples
