-- What a reader has to believe of the arithmetic: definitions alone. The laws about them stand in proofs/.
pub mod Numbers
pub mod Scale
pub mod SquareRoot
pub mod Marks
pub mod joints
