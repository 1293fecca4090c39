-- Files that join code to its definitions. None is needed to check document 01.
pub mod Told
