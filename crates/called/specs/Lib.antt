pub mod Called
pub mod CalledLaws
