pub mod Listed
pub mod PutLaws
