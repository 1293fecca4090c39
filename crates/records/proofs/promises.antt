-- The promises of specs/promises hold.
pub mod SortedLaws
pub mod OwnTests
pub mod TakenFields
pub mod ArchiveBack
pub mod ArchiveAgain
pub mod ArchiveKeeps
pub mod TakenOut
pub mod TakenSizes
pub mod TakenAccepted
pub mod TornKeeps
pub mod CountLaws
pub mod CountsKeep
pub mod CutoffTableKeeps
pub mod SeasonPrints
