-- The laws of Σ and the Hs.
pub mod PartLaws
