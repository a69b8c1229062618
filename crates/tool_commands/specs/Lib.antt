pub mod Signs
pub mod Traces
pub mod Checks
