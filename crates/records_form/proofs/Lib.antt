-- Laws of the refusals that any call makes of its file.
pub mod FormLaws
