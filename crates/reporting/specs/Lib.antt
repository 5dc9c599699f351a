-- The report: its definition, and how the code divides it into pages.
pub mod Report
pub mod Pages
