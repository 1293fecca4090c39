-- Files that join code to its definitions. None is needed to check the documents.
pub mod Packed
