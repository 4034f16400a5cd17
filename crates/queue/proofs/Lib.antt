pub mod AskValues
pub mod AskBack
pub mod QueueOrder
pub mod Frames
pub mod QueueBytes
pub mod MarkBytes
pub mod RecordBytes
