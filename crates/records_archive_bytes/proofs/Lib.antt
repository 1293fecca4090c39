-- The laws of an archive's bytes.
pub mod StoredLaws
pub mod FrontLaws
