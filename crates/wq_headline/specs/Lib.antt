pub mod Headline
pub mod Lists
pub mod Gone
pub mod Alone
pub mod Moments
pub mod Exact
pub mod Followers
pub mod Triggers
