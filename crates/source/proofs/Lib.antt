pub mod Places
pub mod Exchanging
pub mod Levels
pub mod Left
