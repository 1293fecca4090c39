-- The laws of the whole Satterthwaite call.
pub mod Inputs
pub mod Judged
pub mod Answers
pub mod Bench
pub mod RotationMarks
