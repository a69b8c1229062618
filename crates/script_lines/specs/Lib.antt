pub mod Replies
pub mod Script
