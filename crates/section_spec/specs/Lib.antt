pub mod Section
pub mod Mpe
