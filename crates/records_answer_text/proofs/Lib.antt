-- The laws of the cursor, of digits and of the lines, and document 01's lines.
pub mod CursorLaws
pub mod TextLaws
pub mod SeriesLaws
pub mod Examples
