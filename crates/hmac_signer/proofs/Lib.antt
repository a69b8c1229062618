pub mod Joined
pub mod Printable
