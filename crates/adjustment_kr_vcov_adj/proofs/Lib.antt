-- The laws of the adjustment as one call.
pub mod PrecisionLaws
pub mod ReadLaws
pub mod CallLaws
