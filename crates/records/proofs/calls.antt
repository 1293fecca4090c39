-- Laws of the calls: who refuses, each number precisely under its condition, what an accepting call writes; and examples, computed.
pub mod CallLaws
pub mod Precisely
pub mod ArchiveLengths
pub mod ArchiveFront
pub mod ArchivePrecisely
pub mod CallExamples
