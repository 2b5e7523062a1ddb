pub mod Fill
pub mod Columns
pub mod Syndromes
pub mod Marks
pub mod Correction
