-- The laws of a pair's rotation, for any kind of number.
pub mod Cells
pub mod Pairs
