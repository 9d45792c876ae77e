pub mod OperationTables
pub mod Operations
