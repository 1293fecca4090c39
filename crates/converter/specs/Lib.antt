-- Document 01's third demand: the record file that a change of converter gives, how it is read, and what is promised of each call on it. Definitions alone.
pub mod Converted
pub mod ReadAlike
pub mod AnswerBytes
pub mod SeriesDemand
pub mod ArchiveDemand
pub mod ParametersDemand
pub mod SeasonDemand
pub mod PrintedDemand
