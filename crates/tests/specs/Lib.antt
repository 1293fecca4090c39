-- Document 01, "kr_modcomp.rs", "ddf.rs" and the run of "kenward_roger.rs": the two tests and what they answer. Definitions alone, in the document's order.
pub mod Answer
pub mod Both
pub mod Order
pub mod Basis
pub mod Moments
pub mod KenwardRoger
pub mod Used
pub mod Entries
pub mod Verdict
pub mod VarianceDf
pub mod PooledDf
pub mod Satterthwaite
