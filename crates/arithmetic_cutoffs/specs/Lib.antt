-- The nine small numbers of document 01. Definitions alone.
pub mod Cutoffs
