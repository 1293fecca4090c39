-- The laws of a large matrix times a narrow one.
pub mod NarrowLaws
