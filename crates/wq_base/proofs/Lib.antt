pub mod Facts
pub mod Unsigned
pub mod Signed
pub mod Fault
pub mod Named
pub mod Fronts
pub mod TextOrder
