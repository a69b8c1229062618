mod AuditLaws
pub mod FileLaws
mod PathLaws
mod ReadingLaws
mod ReopeningLaws
