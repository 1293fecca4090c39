-- The laws of the archive's writer.
pub mod ArchivingLaws
