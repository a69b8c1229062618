pub mod CommandLine
pub mod Replays
