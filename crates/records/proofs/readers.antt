-- Laws of the readers: what the number of a file says, what holds of one that is accepted, sizes and limits, torn specimens, tables of cutoffs; and document 01's examples and others, computed.
pub mod SameSeries
pub mod Limits
pub mod KeptLaws
pub mod ShortLaws
pub mod KeptScans
pub mod AcceptedSeries
pub mod SeriesInput
pub mod AcceptedParameters
pub mod ReaderLaws
pub mod CutoffLaws
pub mod AcceptedArchive
pub mod Examples
pub mod CutoffExamples
pub mod ArchiveExamples
