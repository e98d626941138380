pub mod Face
pub mod FaceLaws
pub mod Normal
pub mod Table
pub mod Regular
