pub mod Tables
pub mod Stored
pub mod Steps
pub mod Causes
pub mod Readable
pub mod Reading
pub mod Queries
