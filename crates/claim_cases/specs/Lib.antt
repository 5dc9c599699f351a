-- The claim on strangers with one clause left out. With none left out it is that claim.
pub mod Without
pub mod Insiders
pub mod Whole
-- Without any one clause it is false: trials, and the theorem `each_is_needed`.
pub mod Tried
pub mod Trials
-- An example to which the theorem applies.
pub mod Example
