-- What the code reads off a series' sheet, the numbers of a call, and its answers.
pub mod Numbers
pub mod ShortRead
pub mod Calls
pub mod Contrasts
pub mod Answers
