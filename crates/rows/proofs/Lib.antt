pub mod Breaking
pub mod Finding
pub mod Marking
pub mod Aiming
pub mod Deriving
pub mod Begun
