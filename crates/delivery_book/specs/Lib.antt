pub mod Progress
pub mod Entries
pub mod CompactProgress
pub mod Fields
pub mod Book
pub mod Laws
pub mod Waiting
