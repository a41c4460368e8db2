pub mod Tests
pub mod Fronts
pub mod Shapes
pub mod Starts
pub mod Budgets
pub mod Steps
pub mod ShortPrograms
pub mod FirstPrograms
mod KeptFiles
mod Words
