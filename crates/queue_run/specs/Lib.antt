pub mod Falls
