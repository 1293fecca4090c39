-- The laws of the lent slices.
pub mod WorkLaws
pub mod StackLaws
pub mod FillLaws
