-- Lengths; what each part's bytes say after a change; the keys and marks of a page, as a loop goes over them and in bytes.
pub mod Lengths
pub mod NodeBytes
pub mod ChannelBytes
pub mod SessionBytes
pub mod Backward
pub mod MarkBytes
