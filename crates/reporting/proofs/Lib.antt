-- The laws for the code that fills and writes pages.
pub mod Decimals
pub mod Texts
pub mod Filling
pub mod Whole
pub mod Written
