-- The refusals of the blocks, as the code makes them and as the file says.
pub mod BlockLaws
