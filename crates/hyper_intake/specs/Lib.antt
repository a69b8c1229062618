pub mod Shown
pub mod Responses
pub mod Asking
pub mod Services
