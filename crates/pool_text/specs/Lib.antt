pub mod PoolDocuments
pub mod PoolReports
