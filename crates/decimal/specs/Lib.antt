pub mod Buffer
pub mod Numbers
pub mod Examples
pub mod LawExamples
