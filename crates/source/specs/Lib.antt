pub mod Exchange
pub mod Counting
pub mod Walking
