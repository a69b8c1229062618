pub mod Checks
pub mod Keys
pub mod Places
pub mod Reading
pub mod Shown
pub mod Tables
pub mod Unsound
pub mod Versions
