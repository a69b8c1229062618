pub mod RunLaws
pub mod ServingLaws
