pub mod Recipe
pub mod RecipeLaws
