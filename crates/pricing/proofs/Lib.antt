pub mod Prices
pub mod Trades
pub mod Shares
pub mod Limits
pub mod Meanings
pub mod Examples
pub mod LawExamples
