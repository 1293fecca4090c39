-- Document 01, "kr_vcov_adj.rs": the covariance adjustment. Definitions alone.
pub mod Blocks
pub mod Covariance
pub mod Information
pub mod PackedOnce
pub mod Refusals
pub mod Adjusted
