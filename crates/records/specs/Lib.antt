-- Documents 01 and 02: the record files, the calls whole, what the programs print, and what is promised of them. Definitions and statements alone; README.md gives the order in which they are read.
pub mod format
pub mod readers
pub mod calls
pub mod text
pub mod promises
pub mod before
