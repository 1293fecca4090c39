-- The laws that the checks of a table's records cite.
pub mod CutoffChecks
