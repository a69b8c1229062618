pub mod SearchLaws
pub mod SoundLaws
pub mod TurnLaws
