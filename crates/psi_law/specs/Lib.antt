pub mod OnPid
pub mod Order
pub mod Programs
pub mod Printed
