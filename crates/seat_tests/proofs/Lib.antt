mod Sweeping
mod Sessions
