-- The laws of the tests.
pub mod Parts
pub mod ByBasis
