pub mod Answer
pub mod Back
pub mod Bytes
pub mod File
pub mod Items
pub mod Puts
pub mod Written
