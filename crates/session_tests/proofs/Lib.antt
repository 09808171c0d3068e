mod Opened
mod Listed
