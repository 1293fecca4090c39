-- Laws of runs of stored bytes, and of numbers read back.
pub mod StoreLaws
pub mod ReadLaws
