pub mod Copy
pub mod CopyLaws
