pub mod Prices
pub mod Laws
pub mod Examples
pub mod LawExamples
