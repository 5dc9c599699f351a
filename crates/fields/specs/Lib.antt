-- What the edits do to bytes.
pub mod Edits
