mod PatchRuns
mod Passed
mod Joining
mod Carried
mod AmongNames
