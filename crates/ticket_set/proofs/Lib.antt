pub mod Bits
pub mod Laws
pub mod Least
pub mod Members
pub mod Examples
