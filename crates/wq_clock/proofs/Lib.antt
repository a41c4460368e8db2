mod Parts
mod Joined
mod Spellings
