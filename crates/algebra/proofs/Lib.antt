-- The laws of the algebra.
pub mod FoldLaws
pub mod TableLaws
pub mod ReasonLaws
pub mod EliminationLaws
pub mod JacobiCount
pub mod ValueLaws
pub mod MovingCells
pub mod MovingProducts
pub mod MovingTurns
pub mod MovingJacobi
pub mod MovingColumns
pub mod MovingElimination
