-- The laws of the small matrices between S and IE.
pub mod InformationLaws
