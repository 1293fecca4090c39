-- The laws of the covariance adjustment.
pub mod PackedLaws
pub mod InformationLaws
pub mod AdjustedLaws
pub mod AlikeScaling
pub mod WrittenLaws
