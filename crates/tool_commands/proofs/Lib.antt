mod SampleWords
mod SignLaws
pub mod TraceLaws
mod CheckLaws
