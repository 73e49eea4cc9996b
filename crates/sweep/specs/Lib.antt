pub mod Reading
pub mod Faults
pub mod Requests
pub mod Running
