pub mod EdgeList
pub mod Listing
pub mod Pieces
pub mod Places
