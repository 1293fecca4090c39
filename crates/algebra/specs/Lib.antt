-- Document 01, "Dense algebra": what a reader has to believe. Definitions alone; the laws about them stand in proofs/.
pub mod Fold
pub mod Table
pub mod Kind
pub mod Product
pub mod Elimination
pub mod Cholesky
pub mod Jacobi
pub mod Small
pub mod Reasons
