pub mod Text
pub mod WritingLaws
pub mod Putting
pub mod Sizes
pub mod RoundTrips
pub mod Examples
pub mod LawExamples
