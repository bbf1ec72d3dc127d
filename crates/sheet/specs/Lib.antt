-- What a sheet is, how it is read, and what the writer and the reader reply.
pub mod Number
pub mod Sink
pub mod Sinks
pub mod Sheet
pub mod Reading
pub mod Passes
pub mod Reply
pub mod Writes
pub mod Reads
