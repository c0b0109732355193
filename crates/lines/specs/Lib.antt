pub mod AnswerText
pub mod CallLines
pub mod CallText
pub mod Kept
pub mod ReadingCode
pub mod LineExamples
