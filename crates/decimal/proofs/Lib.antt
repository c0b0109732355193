pub mod Digits
pub mod Put
pub mod Storing
pub mod Numbers
pub mod Examples
pub mod LawExamples
