pub mod Memory
pub mod KeyText
pub mod Fingerprint
