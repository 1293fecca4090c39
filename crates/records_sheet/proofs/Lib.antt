-- Laws of the slots in which the reader keeps what a file says.
pub mod Sheets
pub mod Bounds
pub mod KnownSlots
