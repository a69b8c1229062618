pub mod Audits
pub mod Files
pub mod Left
pub mod Openings
pub mod Paths
pub mod Reopenings
