-- First what the contracts cite beside the definitions of `model`; then laws, in the form that the proofs of the code use.
pub mod Found
pub mod Counting
pub mod Editors
