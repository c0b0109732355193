pub mod OneLine
pub mod Ended
pub mod Examples
