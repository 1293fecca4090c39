-- The laws of a file that arrives in pieces.
pub mod PieceLaws
pub mod CameLaws
