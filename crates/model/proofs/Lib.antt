-- Laws that several proofs of this crate use.
pub mod ConstantTable
pub mod Flags
pub mod Positions
