-- The laws of the second file's number.
pub mod SecondLaws
