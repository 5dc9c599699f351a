-- Laws in the form in which the code asks questions 1 to 7. The definitions of the questions are those of `model`.
pub mod Zeros
pub mod Rules
pub mod Passes
pub mod Seven
