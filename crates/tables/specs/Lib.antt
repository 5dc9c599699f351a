-- Laws in the form in which the code reads the tables and tests for a free row. The definitions are those of `model`.
pub mod Rows
pub mod Climbs
pub mod Capacities
pub mod AnswerLaws
pub mod RowIndices
pub mod Listing
