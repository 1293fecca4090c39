-- The laws of the answer bytes.
pub mod LayoutLaws
