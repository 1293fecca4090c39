-- The laws of the run.
pub mod RunLaws
pub mod Used
