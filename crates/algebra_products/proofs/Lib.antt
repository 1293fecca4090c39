-- The laws of the small products, over both kinds of number, of the marks of a product, and of the way between the two kinds.
pub mod LoopLaws
pub mod RowLaws
pub mod SmallLaws
pub mod MovingSmall
pub mod CellMarkLaws
