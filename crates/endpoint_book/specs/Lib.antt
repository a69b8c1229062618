pub mod Topics
pub mod Entries
pub mod Fields
pub mod Book
pub mod Waiting
pub mod Laws
pub mod Subscribers
