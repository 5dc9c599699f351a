-- `Moves` and `Stores` define what storing, removing and replacing a row are as bytes.
pub mod Moves
pub mod Stores
-- What these edits do: to lists of bytes one after the other, to one table among blocks, to its rows, and to the tables
-- of an accepted image. Last, the image that a call leaves.
pub mod Middle
pub mod Splices
pub mod RowSplices
pub mod Stored
pub mod Calls
