-- The laws of the series.
pub mod Gathers
pub mod Accepted
pub mod Pigeons
