mod Judging
mod Makings
mod Comparing
mod Putting
mod Calls
mod Whole
