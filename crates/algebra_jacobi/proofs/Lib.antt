-- The laws of the sweeps, for any kind of number.
pub mod Counts
pub mod Seen
