pub mod Lines
pub mod Told
pub mod LineLaws
pub mod Examples
