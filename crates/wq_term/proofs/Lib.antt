pub mod Lists
pub mod Texts
mod Arguments
pub mod Slashes
pub mod ArgumentGrammar
mod PatternGrammar
pub mod TermGrammar
mod Grammar
mod KeptLimits
