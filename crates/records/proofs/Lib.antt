-- Laws of the record files, the calls and the text, the proofs of what is promised, and examples computed from the definitions.
pub mod format
pub mod readers
pub mod calls
pub mod text
pub mod promises
pub mod before
