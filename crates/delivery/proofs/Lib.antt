pub mod KeeperLaws
pub mod SettledLaws
pub mod ToldLaws
pub mod PublishedLaws
