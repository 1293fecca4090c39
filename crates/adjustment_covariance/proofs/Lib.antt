-- The laws of the covariance side.
pub mod BlockLaws
pub mod DesignLaws
pub mod GainLaws
