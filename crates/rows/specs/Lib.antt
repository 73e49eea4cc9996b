pub mod Rows
pub mod Ranks
pub mod Placing
pub mod Breaks
pub mod Faults
pub mod Marks
