mod Between
mod Crawling
mod Apart
mod Publishing
mod Attempts
mod Sharing
mod Shown
mod Needs
mod Meets
pub mod Tables
