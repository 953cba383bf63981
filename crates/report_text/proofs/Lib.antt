pub mod AnswerLaws
pub mod HeadLaws
pub mod WritableSays
pub mod ReportLaws
