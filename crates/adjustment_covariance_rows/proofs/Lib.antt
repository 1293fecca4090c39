-- The laws of the rows of the Gs.
pub mod RowLaws
