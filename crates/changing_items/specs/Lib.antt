-- Laws about the questions and the returns, in the form that the proofs of the code use. The definitions are those of
-- `model`, `tables` and `store`.
pub mod Questions
pub mod Items
