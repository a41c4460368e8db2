mod Behind
mod Texts
pub mod Constants
mod HandingIn
