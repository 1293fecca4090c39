-- The laws of large matrices.
pub mod SlabLaws
pub mod ProductLaws
pub mod InPlace
