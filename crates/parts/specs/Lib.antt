pub mod Items
pub mod Laws
pub mod Part
pub mod Parts
pub mod StepWords
