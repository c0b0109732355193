pub mod Writing
pub mod Putting
pub mod RoundTrips
pub mod Examples
pub mod LawExamples
