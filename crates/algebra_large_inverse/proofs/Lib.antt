-- The laws of the inverse of a large matrix.
pub mod EliminationLaws
pub mod BackLaws
pub mod InverseLaws
