-- The laws of a season that arrives in pieces.
pub mod WindowLaws
pub mod WindowCode
pub mod FedLaws
