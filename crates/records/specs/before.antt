-- What was, for the sake of a theorem: what calls returned and wrote before a request, so that a promise can say that an answer stayed.
pub mod Untabled
pub mod AnyOrder
pub mod BareBlocks
