pub mod Raised
pub mod EditLaws
pub mod FieldLaws
