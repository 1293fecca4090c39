-- What a loop over records keeps of the table of kinds.
pub mod KnownKind
