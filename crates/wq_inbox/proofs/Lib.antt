mod Adding
mod Beginnings
mod Due
mod Reading
mod Taking
