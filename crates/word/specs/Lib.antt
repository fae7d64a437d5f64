pub mod Bits
pub mod Bytes
