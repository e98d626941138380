pub mod Lent
pub mod Trail
pub mod Chained
pub mod ChainLaws
