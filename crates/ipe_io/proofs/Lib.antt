pub mod Told
pub mod Buffers
pub mod MemFiles
pub mod MemShelves
pub mod Lent
pub mod Behind
pub mod Loaded
pub mod Racks
