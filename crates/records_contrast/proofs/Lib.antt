-- What the code reads of a contrast off the sheet is what the file says.
pub mod ContrastLaws
