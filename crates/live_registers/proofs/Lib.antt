pub mod RowsStep
pub mod ShownRegisters
pub mod DeadByRows
pub mod DroppedThreads
