pub mod Field
pub mod Codeword
pub mod Row
pub mod Table
