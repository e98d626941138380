pub mod Ready
pub mod Picks
pub mod Runs
pub mod Laws
