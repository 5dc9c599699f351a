-- `Reading` has the definitions that contracts cite beside those of `model`. The other files are laws in the form in
-- which the code reads and writes rows.
pub mod Reading
pub mod RowLaws
pub mod Among
pub mod Found
pub mod Keys
pub mod Halving
