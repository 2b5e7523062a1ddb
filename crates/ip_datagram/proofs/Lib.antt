pub mod Fronts
pub mod Hints
pub mod HintFronts
pub mod Held
