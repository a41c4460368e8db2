pub mod Again
pub mod PatchMaker
pub mod Device
pub mod Tree
pub mod Recent
