mod Finding
pub mod Rows
pub mod Changes
mod Taking
mod Answering
pub mod Tries
mod Opening
mod Told
mod Standing
mod Opened
