pub mod Errors
pub mod Examples
pub mod Moved
