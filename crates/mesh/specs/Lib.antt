-- The specs of the mesh: definitions first, then the laws.
pub mod Closed
pub mod Corners
pub mod Count
pub mod Edges
pub mod Mesh
pub mod Pieces
pub mod Ranks
pub mod Scan
pub mod Shape
pub mod Tests
pub mod Twice
pub mod Unlike
pub mod Verdict
pub mod Lent
