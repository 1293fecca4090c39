-- What document 02 promises of these definitions, and document 01's bench examples: statements alone, proved under proofs/promises and in the crates that docs/PROMISES.md names.
pub mod SortedKeeps
pub mod ArchiveKeeps
pub mod TornKeeps
pub mod CountsKeep
pub mod CutoffTableKeeps
pub mod SeasonPrints
pub mod Bench
