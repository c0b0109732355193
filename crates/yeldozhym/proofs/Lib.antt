pub mod Lengths
pub mod DayLaws
pub mod Turns
pub mod Examples
