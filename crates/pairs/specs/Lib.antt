pub mod Pairs
pub mod Rows
pub mod Records
pub mod Keys
pub mod Samples
pub mod Operators
