pub mod Passing
pub mod Examples
pub mod Failing
