-- Laws in the form in which the code decides. The definitions are those of `model`.
pub mod Folders
pub mod Sets
