-- The laws of the contrast basis.
pub mod BasisLaws
pub mod RankRounding
pub mod RankUnits
pub mod RankRoot
pub mod RankBounds
pub mod RankAngle
pub mod RankTurn
pub mod RankSweeps
pub mod RankStart
pub mod RankOrder
pub mod RankNorms
pub mod Rank
