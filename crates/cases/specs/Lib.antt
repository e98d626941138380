pub mod Input
pub mod Case
pub mod Header
