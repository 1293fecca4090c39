-- What the code reads off the sheets of an archive and a second file, and the numbers of the call.
pub mod TestLaws
pub mod NumberLaws
