-- The law of the loops that keep a top for each kind.
pub mod SizeLaws
