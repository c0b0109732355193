pub mod Scan
pub mod LineLaws
pub mod Examples
