-- The laws that lead to the third demand, a file for each file of definitions.
pub mod MovingScaling
pub mod MovingBasis
pub mod MovingTest
pub mod MovingRun
pub mod MovingSeries
pub mod MovingInput
