pub mod NameOrder
mod Sorting
mod Faults
mod Listings
mod Runs
mod Slots
mod Absorbed
pub mod Stats
pub mod Histories
mod Showing
mod ViewSteps
mod Lookups
mod Located
mod Positions
mod NamesBelow
mod Newest
mod Growing
mod Outside
mod NewestLaw
pub mod LaterOrder
mod LaterRising
mod PassOrder
mod MoveSteps
mod SuffixNumbers
mod AmongSuffixes
mod PositionRuns
pub mod SeenAgain
mod Unmoved
mod Apart
mod Patches
mod Stretches
mod Counted
mod PatchedViews
mod SuffixPlaces
mod SuffixSlots
mod SuffixFlags
mod Whole
