pub mod Rank
pub mod Waiting
pub mod Fits
