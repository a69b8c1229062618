pub mod Parts
pub mod Streams
pub mod Words
pub mod WordFaults
pub mod Answers
pub mod Ends
