pub mod Table
pub mod Demand3Proof
pub mod Answers
pub mod Pieces
