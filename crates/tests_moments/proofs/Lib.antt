-- The laws of the moments.
pub mod Pairs
pub mod MomentLaws
