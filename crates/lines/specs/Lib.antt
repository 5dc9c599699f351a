-- First the words of the group search's contracts. Then laws in the form in which the code decides. The other definitions are
-- those of `model`.
pub mod Climbing
pub mod Groups
pub mod NearestGroups
pub mod Searches
pub mod Parts
