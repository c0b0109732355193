pub mod AnswerLines
pub mod CallLaws
pub mod KeptLaws
pub mod RoundTrip
pub mod ReadingCode
pub mod LineExamples
