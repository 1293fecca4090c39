-- The laws of the tests: both tests on two kinds of number, the Satterthwaite test under a change of converter, and the bench examples, computed.
pub mod MovingOrder
pub mod VarianceLaws
pub mod MovingVariance
pub mod MovingComponents
pub mod SatterthwaiteSurvives
pub mod DdfBench
pub mod KenwardRogerBench
pub mod MarkedRotation
pub mod TestsAlike
pub mod SatterthwaiteAlike
pub mod PlainTests
pub mod GivenF
