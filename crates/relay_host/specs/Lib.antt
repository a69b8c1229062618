pub mod Fresh
pub mod Clocks
pub mod FileChecks
pub mod FileGuards
