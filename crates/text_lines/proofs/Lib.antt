mod FeedLaws
pub mod HexLaws
mod MarkLaws
pub mod NumberLaws
pub mod PartLaws
mod SecretWords
mod SecretTexts
pub mod StreamLaws
pub mod CleanWords
pub mod EndLaws
pub mod AnswerLaws
pub mod WordLaws
mod WorkedLines
