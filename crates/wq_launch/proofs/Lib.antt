mod Searches
mod Sets
mod Numbers
