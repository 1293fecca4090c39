-- Laws of rows that stand a stride apart, and of what a file's sheet gives.
pub mod Strides
pub mod Read
pub mod Copied
