-- The laws of the adjustment from IE on.
pub mod PartLaws
