pub mod Counts
pub mod Ranges
pub mod Rounding
pub mod Sums
pub mod Decide
pub mod Decimal
pub mod Worked
pub mod Examples
