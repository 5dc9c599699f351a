-- Theorems about the definitions of `model` alone; specs/Lib.antt of `model` lists the files with these definitions. Some
-- theorems have the form in which a proof about code needs them.
-- First the laws of the general definitions: tests, counts, sorted tables, sets, trees, folders, rows by number, questions.
pub mod Tests
pub mod Counts
pub mod KeyOrder
pub mod Sorted
pub mod Sets
pub mod Tree
pub mod Steps
pub mod Folders
pub mod Numbered
pub mod WellFormed
pub mod Answers
pub mod Opens
-- Then bytes and tables, for any width and any format: an accepted image is the bytes of its tables, and fitting tables are
-- read back from their bytes.
pub mod Fields
pub mod Rows
pub mod Blocks
pub mod Laid
pub mod Back
pub mod There
-- Last the calls. For those that ask there is one law for each way in which the code returns.
pub mod Asks
-- Those that write keep the tables well-formed and leave an accepted image if they are handed one. For them too there is one
-- law for each way in which the code returns.
pub mod Kept
pub mod Acts
-- Then the counts of holders, and whom the editor search names.
pub mod Holders
pub mod Named
-- Then explanations, which say what decided: which lines stand in the table, and what the group search meets.
pub mod Standing
pub mod Nearest
pub mod Reasons
-- Along the folders that apply, what they explain is the permission set.
pub mod Shared
-- Then steps, which the call and an explanation answer.
pub mod HowFar
-- Last what the amended rule for owners changes of the rule as printed.
pub mod Amended
