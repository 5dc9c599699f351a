-- That the example is one, and that the theorem applies to it.
pub mod Example
