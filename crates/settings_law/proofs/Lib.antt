pub mod Addresses
pub mod Bare
pub mod Keys
pub mod Moved
pub mod Services
pub mod Spellings
pub mod Tops
pub mod Wholes
