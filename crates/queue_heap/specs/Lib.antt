pub mod Heaped
