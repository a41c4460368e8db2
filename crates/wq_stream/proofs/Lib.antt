mod Parts
mod Adding
mod FirstLines
mod Feeding
