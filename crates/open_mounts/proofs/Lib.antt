pub mod Downs
pub mod RowCalls
