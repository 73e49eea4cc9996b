pub mod Holes
pub mod Heaps
