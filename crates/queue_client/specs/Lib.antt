pub mod Sorting
pub mod Ties
