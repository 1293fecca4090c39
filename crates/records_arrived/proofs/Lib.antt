-- What is kept of a file that arrived says what the file says.
pub mod ArrivedLaws
