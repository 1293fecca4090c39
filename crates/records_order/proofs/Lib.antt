-- The laws of the order of records: by keys, and record by record.
pub mod KeyLaws
