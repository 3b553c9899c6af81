mod Counts
mod Steps
