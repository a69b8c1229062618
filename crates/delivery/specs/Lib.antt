pub mod Logs
pub mod Keepers
pub mod LockedState
pub mod SharedLog
pub mod Rounds
pub mod DeskAnswers
