pub mod Ends
pub mod Filed
pub mod Format
pub mod Laws
pub mod Pieces
pub mod Whole
pub mod Written
