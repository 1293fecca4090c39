-- The laws of the archive's reader.
pub mod ReaderLaws
