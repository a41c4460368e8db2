mod Places
mod Order
mod Tokens
mod RowTexts
mod Longs
mod WrittenRows
mod Searches
