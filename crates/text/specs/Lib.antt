pub mod Columns
pub mod Faults
pub mod Layout
pub mod Opened
pub mod Summary
