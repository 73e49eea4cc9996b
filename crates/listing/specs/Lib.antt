pub mod Members
pub mod Settings
pub mod Listing
pub mod Meaning
pub mod Tests
pub mod Samples
pub mod Ranks
pub mod Words
