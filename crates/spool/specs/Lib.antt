pub mod Adopting
pub mod Batches
pub mod Vaults
pub mod Writing
pub mod Migrating
pub mod Opening
pub mod Commits
pub mod Books
