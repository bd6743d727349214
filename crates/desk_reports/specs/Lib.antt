pub mod Printable
pub mod Reports
