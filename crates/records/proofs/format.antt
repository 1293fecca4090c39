-- Laws of questions over records, of cells and their slots, of the order, and of a written file.
pub mod ScanLaws
pub mod RangeScans
pub mod Slots
pub mod WrittenLaws
pub mod CellLaws
pub mod SameFile
pub mod ReadBack
pub mod InOrder
pub mod Canonical
pub mod TailLaws
pub mod RefusalNumbers
