mod Cycles
mod Levels
mod Shares
