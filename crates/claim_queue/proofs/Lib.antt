pub mod FirstLaws
pub mod LaneLaws
pub mod OrderLaws
pub mod QueueLaws
pub mod KeyLaws
