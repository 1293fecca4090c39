-- A record file as bytes: its records and their fields, the tables of kinds, the order of the records, a file as it is written, the answer bytes, and the numbers of the refusals.
pub mod Scan
pub mod Bytes
pub mod KindNumbers
pub mod Kinds
pub mod Cells
pub mod File
pub mod Order
pub mod Written
pub mod Alike
pub mod Layout
pub mod RefusalNumbers
