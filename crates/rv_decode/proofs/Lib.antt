pub mod OperationRanges
