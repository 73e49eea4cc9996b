pub mod Equal
pub mod Bags
pub mod Ranks
pub mod Deriving
