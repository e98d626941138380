pub mod Run
pub mod RunLaws
