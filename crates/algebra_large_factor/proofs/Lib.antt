-- The laws of the Cholesky factor in place.
pub mod FactorLaws
