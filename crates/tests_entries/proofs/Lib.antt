-- What an answer tells of its run.
pub mod AnswerLaws
